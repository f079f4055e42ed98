-- Tests that a comparison is made of.
use Rattle.std.specs.Prelude.{pos, Bool, false}
use Rattle.machine.specs.declared.answers.Refusal.{Refusal}
use Rattle.machine.specs.declared.parts.Labelled.{Labelled}
use Rattle.machine.specs.declared.parts.Operation.{Operation}
use Rattle.machine.specs.declared.parts.Operation.TheVariants.{Push, Pop, Noop, Add, Sub, Less, Load, Store}
use Rattle.machine.specs.declared.parts.Operation.TheVariants.{Jump, Bnz, Call, Return, Output, Halt}
use Rattle.sites.specs.declared.replies.Reply.{Reply}
use Rattle.sites.specs.declared.replies.Reply.TheVariants.{Shown, Refused}

-- an operation without the number that a push holds
abbrev pub without_number : {L : Type 0} → Operation L → Operation Bool
without_number (Push v) = Push (record { value = pos 0; label = false })
without_number Pop = Pop
without_number Noop = Noop
without_number Add = Add
without_number Sub = Sub
without_number Less = Less
without_number Load = Load
without_number Store = Store
without_number Jump = Jump
without_number (Bnz k) = Bnz k
without_number (Call count due) = Call count due
without_number Return = Return
without_number Output = Output
without_number Halt = Halt

-- The two replies are the same, and what a look is answered.
pub data SameLook {L : Type 0} : Reply L → Reply L → Type 0 where
  same_shown : {number : Labelled L} → SameLook (Shown number) (Shown number)
  same_refused : {why : Refusal} → SameLook (Refused why) (Refused why)
