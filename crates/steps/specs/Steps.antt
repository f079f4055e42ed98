-- What a step in code is made of: the operation at the program counter, a halt, and a step with no fuel left.
use Rattle.std.specs.Borrow.{Bor}
use Rattle.std.specs.Prelude.{◌≡◌, List, ℤ, Some, None, Ok, Err, Result}
use Rattle.labels.specs.Kind.{Kind}
use Rattle.rules.specs.Tables.{Table}
use Rattle.machine.specs.Steps.{Setup, Contents, made_of, halted, at_place, attempt, step}
use Rattle.machine.specs.declared.answers.End.{End}
use Rattle.machine.specs.declared.answers.End.TheVariants.{Stopped}
use Rattle.machine.specs.declared.answers.Stop.TheVariants.{OutsideProgram}
use Rattle.machine.specs.declared.parts.Operation.{Operation}
use Rattle.steps.specs.Operations.{round}
use Rattle.steps.specs.Places.{InProgram}
use Rattle.steps.specs.declared.registers.Registers.{Registers}

module _ {L : Type 0} where
  -- the operation at a place of a program, or the end for a place outside it
  abbrev pub Fetches : List (Operation L) → ℤ → Result (Bor (Operation L)) End → Type 0
  Fetches program pc (Ok op) = InProgram pc × (at_place program pc None Some ≡ Some op.now)
  Fetches program pc (Err end) = (at_place program pc None Some ≡ None) × (end ≡ Stopped OutsideProgram)

  -- how a halt ends the round, whatever the parts hold
  abbrev pub Halts : Kind L → Registers L → End → Type 0
  Halts kind start end =
      (table : Table L) (setup : Setup L) (parts : Contents L)
      → halted kind table setup (round start parts) ≡ Err end

  -- how an operation ends the round without fuel, whatever the parts hold
  abbrev pub Unfuelled : Kind L → Operation L → Registers L → End → Type 0
  Unfuelled kind op start end = (table : Table L) (setup : Setup L) (parts : Contents L)
      → attempt kind table setup 0 (round start parts) op ≡ Err end

  -- a step with no fuel left of this program, whatever the other parts hold
  abbrev pub Waits : Kind L → List (Operation L) → Registers L → End → Type 0
  Waits kind program start end = (table : Table L) (parts : Contents L) → parts.program ≡ program
      → step kind table (made_of parts) 0 (round start parts) ≡ Err end
