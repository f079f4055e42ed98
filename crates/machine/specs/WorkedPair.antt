-- Worked histories that are alike to an observer at level 0, of which noninterference speaks.
--
-- Hidden numbers, fuel, sizes and the length of the calls differ. They show that there are such histories, for commands
-- and for looks.
use Rattle.std.specs.Prelude.{◌≡◌, ℕ, List, [], ◌∷◌, length, ℤ, pos}
use Rattle.labels.specs.Level.{levels}
use Rattle.labels.specs.declared.level.Level.{Level}
use Rattle.labels.specs.declared.level.Level.TheVariants.{L0, L3, L5, L7}
use Rattle.rules.specs.Tables.{published}
use Rattle.machine.specs.Observer.{History, inputs, end_of, Proper, AlikeStations, AlikeCalls, visible}
use Rattle.machine.specs.Calls.{LentCall, lent}
use Rattle.machine.specs.Stations.{commands_of, Idle}
use Rattle.machine.specs.Steps.{◌at◌}
use Rattle.machine.specs.declared.calls.Call.{Call}
use Rattle.machine.specs.declared.calls.Call.TheVariants.{Enter, Look, Start, Go, NextCommand}
use Rattle.machine.specs.declared.parts.Operation.{Operation}
use Rattle.machine.specs.declared.parts.Operation.TheVariants.{Push, Add, Load, Output, Halt}

-- puts out cell 0 with a constant added, and then cell 1
abbrev pub adds : ℤ → Level → List (Operation Level)
adds n l = Push (pos 0 at L0) ∷ Load ∷ Push (n at l) ∷ Add ∷ Output ∷ Push (pos 1 at L0) ∷ Load ∷ Output ∷ Halt ∷ []

-- a call that is handed a memory of so many cells, and a stack and a log of these lengths
abbrev pub handed : ℕ → ℕ → ℕ → Call Level → LentCall Level
handed memory stack log call =
    lent call (record { program = 9; memory = memory; stack = stack; log = log }) (published levels)

abbrev pub to_one : Call Level → LentCall Level
to_one = handed 2 2 9

abbrev pub to_two : Call Level → LentCall Level
to_two = handed 2 64 4

-- A whole round, and then another with so much fuel.
abbrev pub one : ℕ → History Level
one fuel = record {
  program = adds (pos 2) L3;
  memory = pos 12 at L5 ∷ pos 7 at L0 ∷ [];
  stack_size = 2;
  log_size = 9;
  calls = to_one (Enter 0 (pos 40 at L3)) ∷ to_one Start ∷ to_one (Go 20)
      ∷ to_one (Enter 1 (pos 8 at L0)) ∷ to_one Start ∷ to_one (Go fuel) ∷ [];
}

-- The same rounds up to their end, the first in smaller goes, with a look, a question and a refused call
-- between them; and then more calls.
abbrev pub two : List (LentCall Level) → History Level
two more = record {
  program = adds (pos 5) L5;
  memory = pos 99 at L7 ∷ pos 7 at L0 ∷ [];
  stack_size = 64;
  log_size = 4;
  calls = handed 3 64 4 (Enter 0 (pos 1 at L0)) ∷ to_two (Enter 0 (pos 50 at L7)) ∷ to_two (Look 1 L0)
      ∷ to_two Start ∷ to_two (Go 3) ∷ to_two (Go 9) ∷ to_two (NextCommand 0 L0)
      ∷ to_two (Enter 1 (pos 8 at L0)) ∷ to_two Start ∷ to_two (Go 20) ∷ more;
}

-- one enter more
abbrev pub third : List (LentCall Level)
third = to_two (Enter 0 (pos 3 at L0)) ∷ []

-- two histories of which noninterference speaks
pub record Pair (left right : History Level) : Type 0 where
  pub left_proper : Proper levels (published levels) left
  pub right_proper : Proper levels (published levels) right
  pub stations : AlikeStations levels L0 left right
  pub calls : AlikeCalls levels L0 left right

pub record WorkedPair : Type 0 where
  -- one is not yet at its second command, the other has gone on
  pub apart : Pair (one 6) (two third)
  pub fewer_commands : visible levels L0 (commands_of (end_of levels (one 6))) ≡ pos 7 at L0 ∷ []
  pub more_commands : visible levels L0 (commands_of (end_of levels (two third))) ≡ pos 7 at L0 ∷ pos 8 at L0 ∷ []
  -- both rest after equally many enters and starts
  pub together : Pair (one 20) (two [])
  pub equally_many : length (inputs (one 20)) ≡ length (inputs (two []))
  pub left_rests : Idle (end_of levels (one 20))
  pub right_rests : Idle (end_of levels (two []))
