-- What a go in code answers and leaves, in the words of the definitions.
use Rattle.std.specs.Prelude.{◌≡◌, ℕ, ◌+◌, None, Some, Ok, Err, Result}
use Rattle.labels.specs.Kind.{Kind}
use Rattle.rules.specs.Tables.{Table}
use Rattle.rules.specs.declared.Policy.{Ghosts as Policy}
use Rattle.machine.specs.Calls.{lent, misfit}
use Rattle.machine.specs.Stations.{Station, Answer, took, refused}
use Rattle.machine.specs.Steps.{Contents, lengths}
use Rattle.machine.specs.declared.answers.Part.{Part}
use Rattle.machine.specs.declared.answers.Refusal.TheVariants.{Length}
use Rattle.machine.specs.declared.calls.Call.TheVariants.{Go}
use Rattle.steps.specs.Operations.{AtMost, StaysTrue}
use Rattle.station.specs.Calls.{Performs}
use Rattle.station.specs.Views.{made_as, running_with, station_with, made_sizes}
use Rattle.station.specs.declared.running.Gone.{Gone}
use Rattle.station.specs.declared.running.Refused.{Refused}
use Rattle.station.specs.declared.running.Running.{Running}

module _ {L : Type 0} where
  -- the answer to a go
  abbrev pub go_answer : Result (Gone L) (Refused L) → Answer L
  go_answer (Ok gone) = took gone.steps
  go_answer (Err back) = refused back.why

  -- the station after it, with the parts that it was lent
  abbrev pub gone_with : Result (Gone L) (Refused L) → Contents L → Station L
  gone_with (Ok gone) parts = station_with gone.station parts
  gone_with (Err back) parts = running_with back.station parts

  -- Not refused, it keeps how long the parts were when the station was made.
  abbrev pub Accepted : Running L → Result (Gone L) (Refused L) → Type 0
  Accepted st (Ok gone) = made_sizes gone.station ≡ st.sizes
  Accepted st (Err back) = ⊥

module _ {P L : Type 0} (policy : Policy P L) (before after : P) where
  -- Refused, a go asks the policy nothing; else at most once for each step that it took, and once for what ended it.
  abbrev pub Questions : Result (Gone L) (Refused L) → Type 0
  Questions (Ok gone) = AtMost policy (gone.steps + 1) before after
  Questions (Err back) = after ≡ before

  module _ (kind : Kind L) (parts parts' : Contents L) (fuel : ℕ) (st : Running L) where
    -- Refused for a part, a go gives the station back and has changed nothing, the policy included.
    pub record GivenBack (part : Part) (result : Result (Gone L) (Refused L)) : Type 0 where
      pub answer : result ≡ Err (record { why = Length part; station = st })
      pub parts_kept : parts' ≡ parts
      pub policy_kept : after ≡ before

    -- A go of a running station.
    pub record Goes (result : Result (Gone L) (Refused L)) : Type 0 where
      -- Under every table that the policy is true to, it answers and leaves what the go over that table does.
      pub performs : (table : Table L) → policy.faithful before table
          → Performs kind (made_as parts.program st.sizes) (running_with st parts)
          (lent (Go fuel) (lengths parts) table)
          (go_answer result) (gone_with result parts')
      pub still : StaysTrue policy before after
      pub asks : Questions result
      -- Whatever the policy, it is refused for the first part that is not as long as when the station was made,
      -- and only then.
      pub refuses : (part : Part) → misfit {L = L} st.sizes (Go fuel) (lengths parts) ≡ Some part
          → GivenBack part result
      pub accepts : misfit {L = L} st.sizes (Go fuel) (lengths parts) ≡ None → Accepted st result
