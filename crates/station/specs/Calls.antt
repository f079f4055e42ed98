-- What the calls in code answer and leave, in the words of the definitions.
use Rattle.std.specs.Prelude.{◌≡◌, ℕ, List, Option, Ok, Err, Result}
use Rattle.labels.specs.Kind.{Kind}
use Rattle.rules.specs.Tables.{Table}
use Rattle.machine.specs.Calls.{LentCall, lent}
use Rattle.machine.specs.Stations.{Station, Answer, found, refused, make, commands_of, answer, after}
use Rattle.machine.specs.Steps.{Setup, Contents, lengths, made_of}
use Rattle.machine.specs.declared.answers.Refusal.{Refusal}
use Rattle.machine.specs.declared.calls.Call.{Call}
use Rattle.machine.specs.declared.calls.Call.TheVariants.{NextCommand}
use Rattle.machine.specs.declared.parts.Labelled.{Labelled}
use Rattle.machine.specs.declared.parts.Sizes.{Sizes}
use Rattle.steps.specs.Operations.{with_log}
use Rattle.steps.specs.Windows.{logged}
use Rattle.steps.specs.declared.window.Window.{Window}
use Rattle.station.specs.Views.{made_as, idle_with}
use Rattle.station.specs.declared.idle.Idle.{Idle}

module _ {L : Type 0} where
  -- Making answers what is defined; a made station has no commands and keeps how long its parts are.
  abbrev pub Makes : Contents L → Result (Idle L) Refusal → Type 0
  Makes parts (Ok st) = (make parts ≡ Ok (idle_with st parts)) × (made_as parts.program st.sizes ≡ made_of parts)
  Makes parts (Err why) = make parts ≡ Err why

  -- The answer that a call's result stands for: what `says` makes of its value, or the refusal.
  abbrev pub answered : {A : Type 0} → (A → Answer L) → Result A Refusal → Answer L
  answered says (Ok x) = says x
  answered says (Err why) = refused why

module _ {L : Type 0} (kind : Kind L) where
  -- A call on a station: the answer and the station after it are those that are defined.
  pub record Performs (setup : Setup L) (before : Station L) (made : LentCall L) (given : Answer L)
      (left : Station L) : Type 0 where
    pub answers : given ≡ answer kind setup before made
    pub leaves : left ≡ after kind setup before made

  -- A call that is lent some of the parts and no policy, on a station made with parts of these lengths: it
  -- performs what is defined, whatever the other parts hold. `before` and `after` see the station with its
  -- parts, which are `parts rest` before and `parts' rest` after the call.
  abbrev pub Serves : Sizes → Call L → (Contents L → Station L) → (Contents L → Contents L) → (Contents L → Station L)
      → (Contents L → Contents L) → Answer L → Type 0
  Serves sizes call before parts after parts' given = (rest : Contents L) (table : Table L)
      → Performs (made_as rest.program sizes) (before (parts rest))
      (lent call (lengths (parts rest)) table) given (after (parts' rest))

  -- The question for the next command, of a station in any state with this window over its log.
  abbrev pub TellsNext : Sizes → Window → List (Labelled L) → ℕ → L → Result (Option ℕ) Refusal → Type 0
  TellsNext sizes window log from clearance result =
      (view : Contents L → Station L) → ((parts : Contents L) → commands_of (view parts) ≡ logged window parts.log)
      → Serves sizes (NextCommand from clearance) view (with_log log) view (with_log log) (answered found result)
