-- Worked steps under other tables: which labels each operation asks with, and in which order a step tests.
use Rattle.std.specs.Prelude.{ℕ, Bool, true, false, cond, ◌&&◌, List, [], ◌∷◌, pos, negsuc, None, Option, ◌==◌}
use Rattle.labels.specs.Level.{levels, rank}
use Rattle.labels.specs.declared.level.Level.{Level}
use Rattle.labels.specs.declared.level.Level.TheVariants.{L0, L1, L2, L3, L4, L6, L7}
use Rattle.rules.specs.Tables.{Table, verdict}
use Rattle.rules.specs.declared.Opcode.{Opcode}
use Rattle.rules.specs.declared.Opcode.TheVariants as opcode
use Rattle.rules.specs.declared.Request.{Request}
use Rattle.rules.specs.declared.Verdict.{Verdict}
use Rattle.machine.specs.Steps.{◌at◌, Outcome, finished, later, stopped, done, setup, step}
use Rattle.machine.specs.Worked.{◌on◌, round, one_step, due_frame, Row, ◌gives◌}
use Rattle.machine.specs.declared.answers.Stop.TheVariants.{OutsideProgram, TooFewNumbers, StackFull}
use Rattle.machine.specs.declared.answers.Stop.TheVariants.{OutsideMemory, Forbidden, NoFrame, LogFull}
use Rattle.machine.specs.declared.parts.Entry.{Entry}
use Rattle.machine.specs.declared.parts.Entry.TheVariants.{Frame}
use Rattle.machine.specs.declared.parts.Operation.{Operation}
use Rattle.machine.specs.declared.parts.Operation.TheVariants.{Push, Pop, Noop, Add, Sub, Less, Load, Store}
use Rattle.machine.specs.declared.parts.Operation.TheVariants.{Jump, Bnz, Call, Return, Output, Halt}

abbrev pub same_level : Level → Level → Bool
same_level a b = rank a == rank b

-- Answers N = 6 and R = 7 to a request with exactly these labels, and forbids every other.
abbrev pub exactly : Level → Level → Level → Level → Request Level → Option (Verdict Level)
exactly p a b c q =
    cond (same_level q.pc p && same_level q.a a && same_level q.b b && same_level q.c c)
    (verdict L6 L7) None

-- The labels that each operation asks with, where the program counter has 1, the top number 2, the number
-- beneath it 3, the cell 4 and the frame 4.
abbrev pub strict_row : Opcode → Request Level → Option (Verdict Level)
strict_row opcode.Push = exactly L1 L2 L0 L0
strict_row opcode.Pop = exactly L1 L2 L0 L0
strict_row opcode.Noop = exactly L1 L0 L0 L0
strict_row opcode.Add = exactly L1 L2 L3 L0
strict_row opcode.Sub = exactly L1 L2 L3 L0
strict_row opcode.Less = exactly L1 L2 L3 L0
strict_row opcode.Load = exactly L1 L2 L4 L0
strict_row opcode.Store = exactly L1 L2 L3 L4
strict_row opcode.Jump = exactly L1 L2 L0 L0
strict_row opcode.Bnz = exactly L1 L2 L0 L0
strict_row opcode.Call = exactly L1 L2 L0 L0
strict_row opcode.Return = exactly L1 L4 L2 L0
strict_row opcode.Output = exactly L1 L2 L0 L0

abbrev pub strict : Table Level
strict q = strict_row q.op q

-- a step under the strict table: N is the label of the program counter after it, R that of the result
abbrev pub asks : Operation Level → List (Entry Level) → Outcome Level
asks op stack = one_step strict 1 op 0 L1 stack (pos 7 at L4 ∷ [])

-- a frame to place 3 with a result due, labelled 4
abbrev pub high_frame : Entry Level
high_frame = Frame (record { place = pos 3; due = true; label = L4 })

abbrev pub requests : List Row
requests =
    (asks (Push (pos 5 at L2)) [] gives done (round 1 L6 (pos 5 on L7 ∷ []) (pos 7 at L4 ∷ []) []))
    ∷ (asks Pop (pos 0 on L2 ∷ []) gives done (round 1 L6 [] (pos 7 at L4 ∷ []) []))
    ∷ (asks Noop [] gives done (round 1 L6 [] (pos 7 at L4 ∷ []) []))
    ∷ (asks Add (pos 2 on L2 ∷ pos 9 on L3 ∷ []) gives done (round 1 L6 (pos 11 on L7 ∷ []) (pos 7 at L4 ∷ []) []))
    ∷ (asks Sub (pos 2 on L2 ∷ pos 9 on L3 ∷ []) gives done (round 1 L6 (pos 7 on L7 ∷ []) (pos 7 at L4 ∷ []) []))
    ∷ (asks Less (pos 2 on L2 ∷ pos 9 on L3 ∷ []) gives done (round 1 L6 (pos 0 on L7 ∷ []) (pos 7 at L4 ∷ []) []))
    ∷ (asks Load (pos 0 on L2 ∷ []) gives done (round 1 L6 (pos 7 on L7 ∷ []) (pos 7 at L4 ∷ []) []))
    ∷ (asks Store (pos 0 on L2 ∷ pos 9 on L3 ∷ []) gives done (round 1 L6 [] (pos 9 at L7 ∷ []) []))
    ∷ (asks Jump (pos 5 on L2 ∷ []) gives done (round 5 L6 [] (pos 7 at L4 ∷ []) []))
    ∷ (asks (Bnz (pos 3)) (pos 1 on L2 ∷ []) gives done (round 3 L6 [] (pos 7 at L4 ∷ []) []))
    ∷ (asks (Call 1 false) (pos 5 on L2 ∷ pos 9 on L3 ∷ [])
    gives done
    (round 5 L6 (pos 9 on L3 ∷ Frame (record { place = pos 1; due = false; label = L7 }) ∷ [])
    (pos 7 at L4 ∷ []) []))
    ∷ (asks Return (pos 2 on L2 ∷ high_frame ∷ []) gives done (round 3 L6 (pos 2 on L7 ∷ []) (pos 7 at L4 ∷ []) []))
    ∷ (one_step (exactly L1 L4 L0 L0) 1 Return 0 L1
    (pos 2 on L2 ∷ Frame (record { place = pos 3; due = false; label = L4 }) ∷ []) []
    gives done (round 3 L6 [] [] []))
    ∷ (asks Output (pos 2 on L2 ∷ []) gives done (round 1 L6 [] (pos 7 at L4 ∷ []) (pos 2 at L7 ∷ [])))
    ∷ []

-- A step where everything is forbidden, with one cell of memory, a stack that is full at two entries, and a log
-- that is full at one. It stands at place p of a program of one operation.
abbrev pub tests : ℕ → ℕ → Operation Level → List (Entry Level) → Outcome Level
tests fuel p op stack =
    step levels (λ _. None) (setup (op ∷ []) (pos 7 at L0 ∷ []) 2 1) fuel
    (round p L0 stack (pos 7 at L0 ∷ []) (pos 1 at L0 ∷ []))

abbrev pub order : List Row
order =
    (tests 0 1 Noop [] gives stopped OutsideProgram)
    ∷ (tests 0 0 Halt [] gives finished)
    ∷ (tests 0 0 Noop [] gives later)
    ∷ (tests 0 0 Add [] gives later)
    ∷ (tests 1 0 Noop [] gives stopped Forbidden)
    ∷ (tests 1 0 (Push (pos 1 at L0)) (pos 0 on L0 ∷ pos 0 on L0 ∷ []) gives stopped StackFull)
    ∷ (tests 1 0 (Push (pos 1 at L0)) (pos 0 on L0 ∷ []) gives stopped Forbidden)
    ∷ (tests 1 0 Pop [] gives stopped TooFewNumbers)
    ∷ (tests 1 0 Pop (pos 0 on L0 ∷ []) gives stopped Forbidden)
    ∷ (tests 1 0 Add (pos 0 on L0 ∷ []) gives stopped TooFewNumbers)
    ∷ (tests 1 0 Sub (pos 0 on L0 ∷ due_frame ∷ []) gives stopped TooFewNumbers)
    ∷ (tests 1 0 Less (pos 0 on L0 ∷ pos 0 on L0 ∷ []) gives stopped Forbidden)
    ∷ (tests 1 0 Load [] gives stopped TooFewNumbers)
    ∷ (tests 1 0 Load (negsuc 0 on L0 ∷ []) gives stopped OutsideMemory)
    ∷ (tests 1 0 Load (pos 1 on L0 ∷ []) gives stopped OutsideMemory)
    ∷ (tests 1 0 Load (pos 0 on L0 ∷ []) gives stopped Forbidden)
    ∷ (tests 1 0 Store (pos 1 on L0 ∷ []) gives stopped TooFewNumbers)
    ∷ (tests 1 0 Store (pos 1 on L0 ∷ pos 0 on L0 ∷ []) gives stopped OutsideMemory)
    ∷ (tests 1 0 Store (pos 0 on L0 ∷ pos 0 on L0 ∷ []) gives stopped Forbidden)
    ∷ (tests 1 0 Jump (due_frame ∷ []) gives stopped TooFewNumbers)
    ∷ (tests 1 0 Jump (pos 0 on L0 ∷ []) gives stopped Forbidden)
    ∷ (tests 1 0 (Bnz (pos 1)) [] gives stopped TooFewNumbers)
    ∷ (tests 1 0 (Bnz (pos 1)) (pos 0 on L0 ∷ []) gives stopped Forbidden)
    ∷ (tests 1 0 (Call 1 true) (pos 0 on L0 ∷ due_frame ∷ []) gives stopped TooFewNumbers)
    ∷ (tests 1 0 (Call 0 true) (pos 0 on L0 ∷ []) gives stopped Forbidden)
    ∷ (tests 1 0 Return [] gives stopped NoFrame)
    ∷ (tests 1 0 Return (pos 0 on L0 ∷ []) gives stopped NoFrame)
    ∷ (tests 1 0 Return (due_frame ∷ pos 0 on L0 ∷ []) gives stopped TooFewNumbers)
    ∷ (tests 1 0 Return (pos 0 on L0 ∷ due_frame ∷ []) gives stopped Forbidden)
    ∷ (tests 1 0 Output [] gives stopped TooFewNumbers)
    ∷ (tests 1 0 Output (pos 0 on L0 ∷ []) gives stopped LogFull)
    ∷ []
