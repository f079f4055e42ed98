-- How labelled numbers, calls, states and refusals are written.
use Rattle.std.specs.Prelude.{ℕ, ℤ, List, ◌++◌, codes}
use Rattle.std.specs.Fmt.{decimal, signed_decimal}
use Rattle.machine.specs.Numbers.{refusal_number, stop_number}
use Rattle.machine.specs.declared.answers.Part.{Part}
use Rattle.machine.specs.declared.answers.Part.TheVariants.{Program, Memory, Stack, Log}
use Rattle.machine.specs.declared.answers.Refusal.{Refusal}
use Rattle.machine.specs.declared.answers.Refusal.TheVariants.{Limits}
use Rattle.machine.specs.declared.answers.Stop.{Stop}
use Rattle.machine.specs.declared.calls.Call.{Call}
use Rattle.machine.specs.declared.calls.Call.TheVariants.{Enter, Look, Start, Go, NextCommand}
use Rattle.machine.specs.declared.calls.State.{State}
use Rattle.machine.specs.declared.calls.State.TheVariants.{Idle, Running, Shut}
use Rattle.machine.specs.declared.parts.Labelled.{Labelled}

abbrev pub part_name : Part → List ℕ
part_name Program = codes "program"
part_name Memory = codes "memory"
part_name Stack = codes "stack"
part_name Log = codes "log"

-- a refusal's number, and behind it which part is outside its limits
abbrev pub refusal_text : Refusal → List ℕ
refusal_text (Limits part) = decimal (refusal_number (Limits part)) ++ (codes ", " ++ part_name part)
refusal_text why = decimal (refusal_number why)

-- the number of the stop, and where it was
abbrev pub stop_text : Stop → ℤ → List ℕ
stop_text stop place = decimal (stop_number stop) ++ (codes " at place " ++ signed_decimal place)

abbrev pub state_text : State → List ℕ
state_text Idle = codes "idle"
state_text Running = codes "running"
state_text (Shut stop place) = codes "shut with " ++ stop_text stop place

module _ {L : Type 0} (text : L → List ℕ) where
  abbrev pub number_text : Labelled L → List ℕ
  number_text v = signed_decimal v.value ++ (codes "@" ++ text v.label)

  abbrev pub call_text : Call L → List ℕ
  call_text (Enter cell number) = codes "enter " ++ (decimal cell ++ (codes " " ++ number_text number))
  call_text (Look cell clearance) = codes "look " ++ (decimal cell ++ (codes " " ++ text clearance))
  call_text Start = codes "start"
  call_text (Go fuel) = codes "go " ++ decimal fuel
  call_text (NextCommand from clearance) = codes "command " ++ (decimal from ++ (codes " " ++ text clearance))
