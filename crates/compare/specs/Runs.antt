-- Lists of calls made on a station, from making to the end.
use Rattle.std.specs.Prelude.{◌≡◌, Bool, true, false, cond, not, ◌&&◌, ◌==◌, List, [], ◌∷◌, length}
use Rattle.std.specs.Prelude.{Some, None, Ok, Err, Option, Result}
use Rattle.labels.specs.Kind.{Kind}
use Rattle.rules.specs.Tables.{published}
use Rattle.rules.specs.declared.Policy.{Ghosts as Policy}
use Rattle.machine.specs.Calls.{Input, LentCall, lent, facts, is_input}
use Rattle.machine.specs.Numbers.{refusal_number}
use Rattle.machine.specs.Observer.{History}
use Rattle.machine.specs.declared.answers.Refusal.{Refusal}
use Rattle.machine.specs.declared.calls.Call.{Call}
use Rattle.machine.specs.declared.parts.Sizes.{Sizes}
use Rattle.steps.specs.Operations.{StaysTrue}
use Rattle.sites.specs.Calls.{Does, Refuses, Asking}
use Rattle.sites.specs.Sites.{Installed, Installs, Untouched, sizes_of}
use Rattle.sites.specs.declared.lending.Parts.{Parts}
use Rattle.sites.specs.declared.replies.Reply.{Reply}
use Rattle.sites.specs.declared.replies.Reply.TheVariants.{Refused, NotTaken, NotLent}
use Rattle.compare.specs.declared.exchanges.Exchange.{Exchange}
use Rattle.compare.specs.declared.exchanges.Lent.{Lent}
use Rattle.compare.specs.declared.exchanges.Lent.TheVariants.{Own, Others}
use Rattle.compare.specs.declared.plans.Plan.{Plan}
use Rattle.compare.specs.declared.plans.Ran.{Ran}

-- a call that is lent the station's own parts, before it is made
abbrev pub own_call : {L : Type 0} → Call L → Exchange L
own_call call = record { call = call; lent = Own; reply = None }

module _ {P L : Type 0} (kind : Kind L) (policy : Policy P L) where
  -- What a call that is lent its own or others' parts does, with what it leaves of them and of the policy.
  abbrev pub Meets : Installed P L → Call L → Lent L → Installed P L → Lent L → Reply L → Type 0
  Meets before call Own left Own reply =
      Does kind (policy.faithful before.policy) before.sited call left.sited reply
      × StaysTrue policy before.policy left.policy
      × ((Asking before.sited.station call → ⊥) → left.policy ≡ before.policy)
  Meets before call (Others parts) left (Others parts') reply =
      Refuses before.sited (sizes_of parts) call left.sited reply
      × Untouched parts parts'
      × (left.policy ≡ before.policy)
  Meets before call lent left lent' reply = ⊥

  -- A call of a list, made on a station: the reply is kept with it.
  pub record Exchanged
      (before : Installed P L) (asked : Exchange L) (left : Installed P L) (told : Exchange L) : Type 0 where
    pub same_call : told.call ≡ asked.call
    pub reply : Reply L
    pub kept : told.reply ≡ Some reply
    pub meets : Meets before asked.call asked.lent left told.lent reply

  -- A list of calls made on a station one after the other.
  pub data Plays : Installed P L → List (Exchange L) → List (Exchange L) → Installed P L → Type 0 where
    over : {site : Installed P L} → Plays site [] [] site
    next : {before between left : Installed P L} {asked told : Exchange L} {more more_told : List (Exchange L)}
        → Exchanged before asked between told → Plays between more more_told left
        → Plays before (asked ∷ more) (told ∷ more_told) left

  -- A plan that is run: what making is refused, or a station made of these parts and the calls made on it.
  abbrev pub RunsTo : Plan P L → Result (Ran P L) Refusal → Type 0
  RunsTo plan (Ok ran) = (made : Installed P L) × Installs plan.parts plan.policy (Ok made)
      × Plays made plan.exchanges.items ran.exchanges.items ran.site
  RunsTo plan (Err why) = Installs plan.parts plan.policy (Err why)

module _ {L : Type 0} where
  -- whether a reply says that the call was made
  abbrev pub says_made : Reply L → Bool
  says_made (NotTaken state) = false
  says_made NotLent = false
  says_made reply = true

  -- Whether a reply says that the call was made and not refused with 2.
  abbrev pub stands : Reply L → Bool
  stands (Refused why) = not (refusal_number why == 2)
  stands reply = says_made reply

  abbrev pub replied : (Reply L → Bool) → Option (Reply L) → Bool
  replied test None = false
  replied test (Some reply) = test reply

  -- the enters and starts that a call of a list stands for, if it counts
  abbrev pub inputs_of : Exchange L → List (Input L)
  inputs_of e = (facts e.call).inputs

  -- Whether a call counts when two lists are compared: an enter or a start that was made, and not
  -- refused for a part. These are left of the history below when the others are struck out.
  abbrev pub counts : Exchange L → Bool
  counts e = replied stands e.reply && is_input e.call

  -- how long the parts are that a call is lent, of a station with parts of these lengths
  abbrev pub lens_of : Sizes → Lent L → Sizes
  lens_of sizes Own = sizes
  lens_of sizes (Others parts) = sizes_of parts

  module _ (kind : Kind L) where
    -- The calls that were made, under a policy that is true to the published rows.
    abbrev pub calls_made : Sizes → List (Exchange L) → List (LentCall L)
    calls_made sizes [] = []
    calls_made sizes (e ∷ es) = cond (replied says_made e.reply)
        (lent e.call (lens_of sizes e.lent) (published kind) ∷ calls_made sizes es)
        (calls_made sizes es)

    -- a station as it was made of these parts, and the calls made on it since
    abbrev pub history : Parts L → List (Exchange L) → History L
    history parts es = record {
      program = parts.program.items;
      memory = parts.memory.items;
      stack_size = length parts.stack.items;
      log_size = length parts.log.items;
      calls = calls_made (sizes_of parts) es;
    }
