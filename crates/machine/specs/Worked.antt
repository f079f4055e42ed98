-- Worked steps: a table of what each comes to. Labels are levels, the rows are the published ones.
use Rattle.std.specs.Prelude.{◌≡◌, ℕ, zero, suc, true, false, List, [], ◌∷◌, map, ℤ, pos, negsuc}
use Rattle.labels.specs.Level.{levels}
use Rattle.labels.specs.declared.level.Level.{Level}
use Rattle.labels.specs.declared.level.Level.TheVariants.{L0, L1, L2, L3, L5}
use Rattle.rules.specs.Tables.{Table, published}
use Rattle.machine.specs.Steps.{◌at◌, Round, Outcome, finished, stopped, done, setup, step}
use Rattle.machine.specs.declared.answers.Stop.TheVariants.{TooFewNumbers, Forbidden, HaltAboveBottom}
use Rattle.machine.specs.declared.parts.Labelled.{Labelled}
use Rattle.machine.specs.declared.parts.Entry.{Entry}
use Rattle.machine.specs.declared.parts.Entry.TheVariants.{Number, Frame}
use Rattle.machine.specs.declared.parts.Operation.{Operation}
use Rattle.machine.specs.declared.parts.Operation.TheVariants.{Pop, Noop, Add, Sub, Less, Load, Store}
use Rattle.machine.specs.declared.parts.Operation.TheVariants.{Jump, Bnz, Call, Return, Output, Halt}

infix 70 ◌on◌
infix 20 ◌gives◌
-- n@l on the stack
abbrev pub ◌on◌ : ℤ → Level → Entry Level
n on l = Number (n at l)

-- a round at place p under the label l, with these commands; stacks are written from the top
abbrev pub round : ℕ → Level → List (Entry Level) → List (Labelled Level) → List (Labelled Level) → Round Level
round p l stack memory commands =
    record { pc = pos p; pc_label = l; stack = stack; kept = record { memory = memory; commands = commands } }

-- a program with the operation at place p
abbrev pub only : ℕ → Operation Level → List (Operation Level)
only zero op = op ∷ []
only (suc p) op = Noop ∷ only p op

-- One step under a table with so much fuel, in a program that has the operation at place p, with no commands yet.
abbrev pub one_step : Table Level → ℕ → Operation Level → ℕ → Level → List (Entry Level)
    → List (Labelled Level) → Outcome Level
one_step table fuel op p l stack memory =
    step levels table (setup (only p op) memory 64 64) fuel (round p l stack memory [])

abbrev pub doing : Operation Level → ℕ → Level → List (Entry Level) → List (Labelled Level) → Outcome Level
doing = one_step (published levels) 1

-- a frame to place 3, labelled 0, with or without a result due
abbrev pub due_frame : Entry Level
due_frame = Frame (record { place = pos 3; due = true; label = L0 })

abbrev pub bare_frame : Entry Level
bare_frame = Frame (record { place = pos 3; due = false; label = L0 })

-- a row of a table: what is worked out, and what it should be
pub data Row : Type 0 where
  ◌gives◌ : Outcome Level → Outcome Level → Row

abbrev pub left : Row → Outcome Level
left (x gives y) = x

abbrev pub right : Row → Outcome Level
right (x gives y) = y

-- every row of a table holds
abbrev pub Hold : List Row → Type 0
Hold rows = map left rows ≡ map right rows

abbrev pub worked : List Row
worked =
    (doing Add 0 L0 (pos 2 on L5 ∷ pos 3 on L0 ∷ []) [] gives done (round 1 L0 (pos 5 on L5 ∷ []) [] []))
    ∷ (doing Add 0 L0 (pos 1 on L0 ∷ pos 2147483647 on L0 ∷ []) []
    gives done (round 1 L0 (negsuc 2147483647 on L0 ∷ []) [] []))
    ∷ (doing Sub 0 L0 (pos 2 on L5 ∷ pos 3 on L0 ∷ []) [] gives done (round 1 L0 (pos 1 on L5 ∷ []) [] []))
    ∷ (doing Less 0 L0 (pos 3 on L0 ∷ pos 5 on L0 ∷ []) [] gives done (round 1 L0 (pos 0 on L0 ∷ []) [] []))
    ∷ (doing Less 0 L0 (pos 5 on L0 ∷ pos 3 on L0 ∷ []) [] gives done (round 1 L0 (pos 1 on L0 ∷ []) [] []))
    ∷ (doing Load 0 L0 (pos 1 on L5 ∷ []) (pos 7 at L0 ∷ pos 9 at L0 ∷ [])
    gives done (round 1 L0 (pos 9 on L5 ∷ []) (pos 7 at L0 ∷ pos 9 at L0 ∷ []) []))
    ∷ (doing Store 0 L1 (pos 0 on L2 ∷ pos 8 on L0 ∷ []) (pos 4 at L5 ∷ [])
    gives done (round 1 L1 [] (pos 8 at L2 ∷ []) []))
    ∷ (doing Store 0 L1 (pos 0 on L2 ∷ pos 8 on L0 ∷ []) (pos 4 at L2 ∷ [])
    gives done (round 1 L1 [] (pos 8 at L2 ∷ []) []))
    ∷ (doing Store 0 L1 (pos 0 on L2 ∷ pos 8 on L0 ∷ []) (pos 4 at L1 ∷ []) gives stopped Forbidden)
    ∷ (doing Store 0 L0 (pos 1 on L0 ∷ pos 8 on L0 ∷ []) (pos 4 at L0 ∷ pos 4 at L0 ∷ [])
    gives done (round 1 L0 [] (pos 4 at L0 ∷ pos 8 at L0 ∷ []) []))
    ∷ (doing Jump 0 L1 (pos 6 on L2 ∷ []) [] gives done (round 6 L2 [] [] []))
    ∷ (doing (Bnz (negsuc 3)) 4 L0 (pos 1 on L3 ∷ []) [] gives done (round 0 L3 [] [] []))
    ∷ (doing (Bnz (negsuc 3)) 4 L0 (negsuc 0 on L3 ∷ []) [] gives done (round 0 L3 [] [] []))
    ∷ (doing (Bnz (negsuc 3)) 4 L0 (pos 0 on L3 ∷ []) [] gives done (round 5 L3 [] [] []))
    ∷ (doing (Call 1 true) 2 L0 (pos 6 on L5 ∷ pos 1 on L0 ∷ []) []
    gives done (round 6 L5 (pos 1 on L0 ∷ due_frame ∷ []) [] []))
    ∷ (doing (Call 2 false) 2 L0 (pos 6 on L5 ∷ pos 1 on L0 ∷ pos 2 on L0 ∷ pos 3 on L0 ∷ []) []
    gives done (round 6 L5 (pos 1 on L0 ∷ pos 2 on L0 ∷ bare_frame ∷ pos 3 on L0 ∷ []) [] []))
    ∷ (doing Return 9 L5 (pos 1 on L0 ∷ pos 4 on L0 ∷ due_frame ∷ pos 9 on L0 ∷ []) []
    gives done (round 3 L0 (pos 1 on L5 ∷ pos 9 on L0 ∷ []) [] []))
    ∷ (doing Return 9 L5 (pos 1 on L0 ∷ bare_frame ∷ pos 9 on L0 ∷ []) []
    gives done (round 3 L0 (pos 9 on L0 ∷ []) [] []))
    ∷ (doing Return 9 L5 (due_frame ∷ []) [] gives stopped TooFewNumbers)
    ∷ (doing Pop 0 L0 (pos 1 on L0 ∷ due_frame ∷ []) [] gives done (round 1 L0 (due_frame ∷ []) [] []))
    ∷ (doing Pop 0 L0 (due_frame ∷ []) [] gives stopped TooFewNumbers)
    ∷ (doing Halt 0 L0 [] [] gives finished)
    ∷ (one_step (published levels) 0 Halt 0 L0 [] [] gives finished)
    ∷ (doing Halt 0 L1 [] [] gives stopped HaltAboveBottom)
    ∷ (doing Output 0 L2 (pos 7 on L1 ∷ []) [] gives done (round 1 L2 [] [] (pos 7 at L2 ∷ [])))
    ∷ []
