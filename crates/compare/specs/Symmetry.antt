-- To be alike to an observer goes both ways: proofs for the laws of what is compared.
use Rattle.std.specs.Prelude.{List}
use Rattle.labels.specs.Kind.{Kind}
use Rattle.machine.specs.Calls.{Input}
use Rattle.machine.specs.Lists.{Each}
use Rattle.machine.specs.Observer.{AlikeOperation, same_operation, alike_push, AlikeInput, same_start, alike_enter}
use Rattle.machine.specs.declared.parts.Operation.{Operation}
use Rattle.machine.proofs.Alikes.{alike_sym}
use Rattle.machine.proofs.Lists.{each_sym}

module _ {L : Type 0} (kind : Kind L) (o : L) where
  pub operation_sym : (one two : Operation L) → AlikeOperation kind o one two → AlikeOperation kind o two one
  operation_sym one two same_operation = same_operation
  operation_sym one two (alike_push a) = alike_push (alike_sym kind o _ _ a)

  input_sym : (one two : Input L) → AlikeInput kind o one two → AlikeInput kind o two one
  input_sym one two same_start = same_start
  input_sym one two (alike_enter a) = alike_enter (alike_sym kind o _ _ a)

  pub inputs_sym : (one two : List (Input L)) → Each (AlikeInput kind o) one two → Each (AlikeInput kind o) two one
  inputs_sym one two = each_sym input_sym
