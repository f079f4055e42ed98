-- How replies and the making of a station are written.
use Rattle.std.specs.Prelude.{ℕ, List, ◌++◌, Some, None, Option, codes}
use Rattle.std.specs.Fmt.{decimal}
use Rattle.machine.specs.Texts.{call_text, number_text, refusal_text, state_text, stop_text}
use Rattle.machine.specs.declared.answers.Refusal.{Refusal}
use Rattle.machine.specs.declared.calls.State.{State}
use Rattle.machine.specs.declared.calls.State.TheVariants.{Idle, Running, Shut}
use Rattle.sites.specs.declared.replies.Answered.{Answered}
use Rattle.sites.specs.declared.replies.Reply.{Reply}
use Rattle.sites.specs.declared.replies.Reply.TheVariants.{Entered, Shown, Started, Gone}
use Rattle.sites.specs.declared.replies.Reply.TheVariants.{Found, Refused, NotTaken, NotLent}

-- how a go ended that left this state
abbrev pub ending_text : State → List ℕ
ending_text Idle = codes "finished"
ending_text Running = codes "running"
ending_text (Shut stop place) = codes "stopped with " ++ stop_text stop place

abbrev pub making_text : Option Refusal → List ℕ
making_text None = codes "make: made"
making_text (Some why) = codes "make: refused with " ++ refusal_text why

module _ {L : Type 0} (text : L → List ℕ) where
  abbrev pub reply_text : Reply L → List ℕ
  reply_text Entered = codes "done"
  reply_text (Shown number) = number_text text number
  reply_text Started = codes "running"
  reply_text (Gone steps state) = ending_text state ++ (codes " after " ++ (decimal steps ++ codes " steps"))
  reply_text (Found (Some place)) = codes "place " ++ decimal place
  reply_text (Found None) = codes "none"
  reply_text (Refused why) = codes "refused with " ++ refusal_text why
  reply_text (NotTaken state) = codes "not taken, the station is " ++ state_text state
  reply_text NotLent = codes "not made, the parts are not the station's own"

  abbrev pub answered_text : Answered L → List ℕ
  answered_text x = call_text text x.call ++ (codes ": " ++ reply_text x.reply)
