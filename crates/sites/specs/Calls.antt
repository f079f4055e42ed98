-- What the calls on an installed station do, in the words of the definitions.
use Rattle.std.specs.Prelude.{◌≡◌, Some, None, IsTrue}
use Rattle.labels.specs.Kind.{Kind}
use Rattle.rules.specs.Tables.{Table}
use Rattle.machine.specs.Calls.{LentCall, lent, facts, misfit}
use Rattle.machine.specs.Stations.{Station, Answer, granted, shows, took, found, refused}
use Rattle.machine.specs.Stations.{Idle, Running, Takes, state_of, answer, after}
use Rattle.machine.specs.Steps.{Setup}
use Rattle.machine.specs.declared.answers.Part.{Part}
use Rattle.machine.specs.declared.answers.Refusal.TheVariants.{Length}
use Rattle.machine.specs.declared.calls.Call.{Call}
use Rattle.machine.specs.declared.parts.Sizes.{Sizes}
use Rattle.sites.specs.declared.replies.Reply.{Reply}
use Rattle.sites.specs.declared.replies.Reply.TheVariants.{Entered, Shown, Started, Gone}
use Rattle.sites.specs.declared.replies.Reply.TheVariants.{Found, Refused, NotTaken, NotLent}

-- A station with its own parts: what it was made of, and the station itself.
pub record Sited (L : Type 0) : Type 0 where
  pub setup : Setup L
  pub station : Station L

module _ {L : Type 0} where
  -- The policy is asked by a call that asks it, where the state takes the call.
  abbrev pub Asking : Station L → Call L → Type 0
  Asking st call = IsTrue (facts call).asks × Takes st call

  -- This table stands for a policy that is true to the tables of `TrueTo`: where the call asks it, the table is
  -- one of these, else any.
  abbrev pub StandsFor : (Table L → Type 0) → Call L → Table L → Type 0
  StandsFor TrueTo call table = IsTrue (facts call).asks → TrueTo table

  -- The reply says this answer, and in which state the call left the station: after an enter at rest, after a
  -- start in a round, after a go in the state that is told.
  abbrev pub Says : Reply L → Answer L → Station L → Type 0
  Says Entered a left = (a ≡ granted) × Idle left
  Says (Shown number) a left = a ≡ shows number
  Says Started a left = (a ≡ granted) × Running left
  Says (Gone steps told) a left = (a ≡ took steps) × (told ≡ state_of left)
  Says (Found place) a left = a ≡ found place
  Says (Refused why) a left = a ≡ refused why
  Says (NotTaken told) a left = ⊥
  Says NotLent a left = ⊥

  -- The reply says that the state takes no such call, and nothing has changed.
  pub record Declines (before left : Sited L) (reply : Reply L) : Type 0 where
    pub says : reply ≡ NotTaken (state_of before.station)
    pub kept : left ≡ before

  -- A call that hands in others' parts of these lengths changes nothing. It is made only to be refused for a
  -- part of another length; a start hands in none and is not made so.
  pub record Refuses (before : Sited L) (lens : Sizes) (call : Call L) (left : Sited L) (reply : Reply L) : Type 0 where
    pub refused_for : (part : Part) → Takes before.station call → misfit before.setup.sizes call lens ≡ Some part
        → reply ≡ Refused (Length part)
    pub not_lent : Takes before.station call → misfit before.setup.sizes call lens ≡ None → reply ≡ NotLent
    pub declined : (Takes before.station call → ⊥) → reply ≡ NotTaken (state_of before.station)
    pub kept : left ≡ before

module _ {L : Type 0} (kind : Kind L) where
  -- The reply says what is defined of the call, and the station after it is the one that is defined.
  pub record AsDefined (before left : Sited L) (made : LentCall L) (reply : Reply L) : Type 0 where
    pub says : Says reply (answer kind before.setup before.station made) left.station
    pub leaves : left.station ≡ after kind before.setup before.station made

  -- What a call does on a station that is lent its own parts and a policy that is true to these tables: what is
  -- defined, over every table that stands for the policy, where the state takes the call, and nothing where it
  -- does not.
  pub record Does (TrueTo : Table L → Type 0) (before : Sited L) (call : Call L) (left : Sited L)
      (reply : Reply L) : Type 0 where
    pub taken : (table : Table L) → StandsFor TrueTo call table → Takes before.station call
        → AsDefined before left (lent call before.setup.sizes table) reply
    pub declined : (Takes before.station call → ⊥) → Declines before left reply
    pub setup_kept : left.setup ≡ before.setup
