-- A worked station: how it is made, what a list of calls answers, and how it ends. Labels are levels.
use Rattle.std.specs.Prelude.{◌≡◌, ℕ, List, [], ◌∷◌, map, replicate, pos, Some, None, Ok, Err}
use Rattle.labels.specs.Level.{levels}
use Rattle.labels.specs.declared.level.Level.{Level}
use Rattle.labels.specs.declared.level.Level.TheVariants.{L0, L1, L2, L3, L7}
use Rattle.rules.specs.Tables.{published}
use Rattle.machine.specs.Calls.{LentCall, lent}
use Rattle.machine.specs.Numbers.{outside_limits}
use Rattle.machine.specs.Stations.{Station, shut, Answer, granted, shows, took, found}
use Rattle.machine.specs.Stations.{refused, made, make, answer, after, after_all, Allowed}
use Rattle.machine.specs.Steps.{◌at◌, Setup, Contents, contents, made_of}
use Rattle.machine.specs.declared.answers.Part.TheVariants.{Program, Memory, Stack, Log}
use Rattle.machine.specs.declared.answers.Refusal.TheVariants.{Limits, Length, Cell, Clearance}
use Rattle.machine.specs.declared.answers.Stop.TheVariants.{LogFull}
use Rattle.machine.specs.declared.calls.Call.{Call}
use Rattle.machine.specs.declared.calls.Call.TheVariants.{Enter, Look, Start, Go, NextCommand}
use Rattle.machine.specs.declared.parts.Labelled.{Labelled}
use Rattle.machine.specs.declared.parts.Entry.TheVariants.{Number}
use Rattle.machine.specs.declared.parts.Operation.{Operation}
use Rattle.machine.specs.declared.parts.Operation.TheVariants.{Push, Add, Load, Output, Halt}
use Rattle.machine.specs.declared.parts.Sizes.{Sizes}

infix 20 ◌answers◌
-- puts out two more than cell 0, and then cell 1
abbrev pub program : List (Operation Level)
program = Push (pos 0 at L0) ∷ Load ∷ Push (pos 2 at L0) ∷ Add ∷ Output ∷ Push (pos 1 at L0) ∷ Load ∷ Output ∷ Halt ∷ []

abbrev pub memory : List (Labelled Level)
memory = pos 12 at L1 ∷ pos 7 at L0 ∷ []

-- with room for so many stack entries and commands
abbrev pub parts : ℕ → ℕ → Contents Level
parts stack log = contents program memory (replicate stack (Number (pos 0 at L0))) (replicate log (pos 0 at L0))

abbrev pub station : Setup Level
station = made_of (parts 2 2)

abbrev pub sized : ℕ → ℕ → ℕ → ℕ → Sizes
sized program memory stack log = record { program = program; memory = memory; stack = stack; log = log }

-- a call that is handed the station's own parts
abbrev pub own : Call Level → LentCall Level
own call = lent call station.sizes (published levels)

-- calls that are handed parts of other lengths
abbrev pub with_memory : ℕ → Call Level → LentCall Level
with_memory cells call = lent call (record station.sizes { memory = cells }) (published levels)

abbrev pub with_log : ℕ → Call Level → LentCall Level
with_log commands call = lent call (record station.sizes { log = commands }) (published levels)

abbrev pub goes_with : ℕ → ℕ → ℕ → ℕ → LentCall Level
goes_with program memory stack log = lent (Go 9) (sized program memory stack log) (published levels)

pub data Exchange : Type 0 where
  ◌answers◌ : LentCall Level → Answer Level → Exchange

abbrev pub call_of : Exchange → LentCall Level
call_of (call answers x) = call

abbrev pub answer_of : Exchange → Answer Level
answer_of (call answers x) = x

abbrev pub exchanges : List Exchange
exchanges =
    (own (Enter 0 (pos 40 at L3)) answers granted)
    ∷ (own (Enter 2 (pos 1 at L0)) answers refused Cell)
    ∷ (with_memory 3 (Enter 9 (pos 1 at L0)) answers refused (Length Memory))
    ∷ (own (Look 0 L3) answers shows (pos 40 at L3))
    ∷ (own (Look 0 L2) answers refused Clearance)
    ∷ (own (Look 2 L7) answers refused Cell)
    ∷ (with_memory 1 (Look 2 L0) answers refused (Length Memory))
    ∷ (own (NextCommand 0 L7) answers found None)
    ∷ (own Start answers granted)
    ∷ (goes_with 8 3 3 3 answers refused (Length Program))
    ∷ (goes_with 9 1 3 3 answers refused (Length Memory))
    ∷ (goes_with 9 2 1 3 answers refused (Length Stack))
    ∷ (goes_with 9 2 2 1 answers refused (Length Log))
    ∷ (own (Go 0) answers took 0)
    ∷ (own (Go 3) answers took 3)
    ∷ (own (Go 9) answers took 5)
    ∷ (own (NextCommand 0 L2) answers found (Some 1))
    ∷ (own (NextCommand 0 L3) answers found (Some 0))
    ∷ (own (NextCommand 1 L7) answers found (Some 1))
    ∷ (own (NextCommand 2 L7) answers found None)
    ∷ (with_log 1 (NextCommand 0 L3) answers refused (Length Log))
    ∷ (own (Enter 0 (pos 50 at L0)) answers granted)
    ∷ (own Start answers granted)
    ∷ (own (Go 9) answers took 4)
    ∷ (own (NextCommand 0 L7) answers found (Some 0))
    ∷ []

-- what a list of calls answers
abbrev pub answers_from : Station Level → List (LentCall Level) → List (Answer Level)
answers_from st [] = []
answers_from st (call ∷ calls) = answer levels station st call ∷ answers_from (after levels station st call) calls

pub record WorkedCalls : Type 0 where
  -- each part at its limit, and the first one outside it
  pub limits : map outside_limits
      (sized 1 1 1 1 ∷ sized 4096 1024 1024 4096 ∷ sized 4097 0 0 0 ∷ sized 0 1 1 1 ∷ sized 1 1025 0 0 ∷ sized 1 0 1 1
      ∷ sized 1 1 1025 0 ∷ sized 1 1 0 1 ∷ sized 1 1 1 4097 ∷ sized 1 1 1 0 ∷ [])
      ≡ None ∷ None ∷ Some Program ∷ Some Program ∷ Some Memory ∷ Some Memory ∷ Some Stack
      ∷ Some Stack ∷ Some Log ∷ Some Log ∷ []
  pub is_made : make (parts 2 2) ≡ Ok (made memory)
  pub not_made : make (parts 0 0) ≡ Err (Limits Stack)
  -- every call is made in a state that takes it and has its answer, and the last leaves the station shut
  pub allowed : Allowed levels station (made memory) (map call_of exchanges)
  pub answered : answers_from (made memory) (map call_of exchanges) ≡ map answer_of exchanges
  pub ends : after_all levels station (made memory) (map call_of exchanges)
      ≡ shut LogFull (pos 4)
      (record {
        memory = pos 50 at L0 ∷ pos 7 at L0 ∷ [];
        commands = pos 42 at L3 ∷ pos 7 at L0 ∷ [];
      })
