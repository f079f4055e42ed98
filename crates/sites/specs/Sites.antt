-- A station in code with its own parts, as the definitions have it.
use Rattle.std.specs.Prelude.{◌≡◌, ◌≢◌, ◌⊎◌, Some, None, Ok, Err, Result}
use Rattle.labels.specs.Kind.{Kind}
use Rattle.rules.specs.Tables.{Table}
use Rattle.machine.specs.Calls.{misfit}
use Rattle.machine.specs.Stations.{make, Takes, state_of}
use Rattle.machine.specs.Steps.{Contents, contents, lengths, made_of}
use Rattle.machine.specs.declared.answers.Part.{Part}
use Rattle.machine.specs.declared.answers.Refusal.{Refusal}
use Rattle.machine.specs.declared.answers.Refusal.TheVariants.{Length}
use Rattle.machine.specs.declared.calls.Call.{Call}
use Rattle.machine.specs.declared.parts.Sizes.{Sizes}
use Rattle.station.specs.Views.{made_as, made_sizes, station_with}
use Rattle.station.specs.declared.any.Station.{Station as StationCode}
use Rattle.sites.specs.Calls.{Sited, Does, Refuses, Asking}
use Rattle.sites.specs.declared.replies.Reply.{Reply}
use Rattle.sites.specs.declared.replies.Reply.TheVariants.{NotTaken, Refused}
use Rattle.sites.specs.declared.lending.Parts.{Parts}

-- a station with its own parts, and its policy
pub record Installed (P L : Type 0) : Type 0 where
  pub sited : Sited L
  pub policy : P

module _ {L : Type 0} where
  -- what the parts hold, and how long they are
  abbrev pub held : Parts L → Contents L
  held parts = contents parts.program.items parts.memory.items parts.stack.items parts.log.items

  abbrev pub sizes_of : Parts L → Sizes
  sizes_of parts = lengths (held parts)

  -- Parts that hold what they held.
  abbrev pub Untouched : Parts L → Parts L → Type 0
  Untouched parts parts' = held parts' ≡ held parts

  -- what a station was made of, and the station, where its parts hold this
  abbrev pub sited : StationCode L → Contents L → Sited L
  sited st parts = record { setup = made_as parts.program (made_sizes st); station = station_with st parts }

  -- Installing answers what making of these parts is defined to answer, and takes the policy as it is.
  abbrev pub Installs : {P : Type 0} → Parts L → P → Result (Installed P L) Refusal → Type 0
  Installs parts policy (Ok site) =
      (make (held parts) ≡ Ok site.sited.station) × (made_of (held parts) ≡ site.sited.setup) × (site.policy ≡ policy)
  Installs parts policy (Err why) = make (held parts) ≡ Err why

  -- The station as it was, and the reply that its state takes no such call.
  abbrev pub LeavesUntaken : StationCode L → StationCode L × Reply L → Type 0
  LeavesUntaken st r = (r.0 ≡ st) × ((parts : Contents L) → r.1 ≡ NotTaken (state_of (station_with st parts)))

-- A call on a station that is lent these parts does what is defined, and they stay as long as they were when it
-- was made.
pub record Lends {L : Type 0} (kind : Kind L) (TrueTo : Table L → Type 0) (parts parts' : Contents L)
    (before : StationCode L) (call : Call L)
    (result : StationCode L × Reply L) : Type 0 where
  pub does : Does kind TrueTo (sited before parts) call (sited result.0 parts') result.1
  pub as_made : made_sizes result.0 ≡ lengths parts'

-- What comes of a call that hands in these parts, be they the station's own or of other lengths.
pub record Hands {L : Type 0} (kind : Kind L) (TrueTo : Table L → Type 0) (parts parts' : Contents L)
    (before : StationCode L) (call : Call L)
    (result : StationCode L × Reply L) : Type 0 where
  pub lends : made_sizes before ≡ lengths parts → Lends kind TrueTo parts parts' before call result
  pub refuses : (part : Part) → Takes (station_with before parts) call
      → misfit (made_sizes before) call (lengths parts) ≡ Some part
      → (result ≡ (before, Refused (Length part))) × (parts' ≡ parts)

-- The policy is not asked: the call is no go of a running station, or it is refused for a part.
abbrev pub Unasked : {L : Type 0} → Contents L → StationCode L → Call L → Type 0
Unasked parts before call =
    (Asking (station_with before parts) call → ⊥)
    ⊎ (misfit (made_sizes before) call (lengths parts) ≢ None)

-- A call on a station with these parts that is handed others of these lengths.
pub record Offers {L : Type 0} (parts : Contents L) (before : StationCode L) (lens : Sizes)
    (call : Call L) (result : StationCode L × Reply L) : Type 0 where
  pub refuses : Refuses (sited before parts) lens call (sited result.0 parts) result.1
  pub as_made : made_sizes result.0 ≡ lengths parts
