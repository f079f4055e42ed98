-- Calls of a station that is handed parts that are not its own.
use Rattle.std.proofs.Common.{◌≡◌, ◌↔◌, IsTrue, Bool, true, false, Some, None, Option, refl, sym, ap, ◌∙◌, subst}
use Rattle.labels.specs.Kind.{Kind}
use Rattle.rules.specs.Tables.{Table}
use Rattle.machine.specs.Calls.{is_taken, misfit}
use Rattle.machine.specs.Stations.{Takes}
use Rattle.machine.specs.Steps.{Contents, lengths}
use Rattle.machine.specs.declared.answers.Part.{Part}
use Rattle.machine.specs.declared.calls.Call.{Call}
use Rattle.machine.specs.declared.calls.State.{State}
use Rattle.station.specs.Views.{made_sizes, station_with, IsIn}
use Rattle.station.specs.declared.any.Station.{Station as StationCode}
use Rattle.sites.specs.Sites.{sited, LeavesUntaken, Hands, Offers}
use Rattle.sites.specs.declared.replies.Reply.{Reply}
use Rattle.sites.specs.declared.replies.Reply.TheVariants.{NotLent}

-- In this state the station takes the call, or it does not, whatever the parts.
abbrev pub Taken : {L : Type 0} → StationCode L → Call L → Bool → Type 0
Taken {L} st call b = (parts : Contents L) → IsTrue b ↔ Takes (station_with st parts) call

pub taken_in : {L : Type 0} (st : StationCode L) (call : Call L) (told : State) (b : Bool)
    → IsIn st told → b ≡ is_taken call told → Taken st call b
taken_in st call told b is_in tested parts =
    let same = tested ∙ ap (is_taken call) (is_in parts) in (λ yes. sym same ∙ yes, λ takes. same ∙ takes)

module _ {L : Type 0} (own others : Contents L) (st : StationCode L)
    (made : made_sizes st ≡ lengths own) (call : Call L) where
  pub offered_declined : Taken st call false → (r : StationCode L × Reply L) → LeavesUntaken st r
      → Offers own st (lengths others) call r
  offered_declined never r declined = record {
    refuses = record {
      refused_for = λ part takes _. cc ((never own).1 takes);
      not_lent = λ takes _. cc ((never own).1 takes);
      declined = λ _. declined.1 own;
      kept = ap (λ left. sited left own) declined.0;
    };
    as_made = ap made_sizes declined.0 ∙ made;
  }

  pub offered_own_lengths : Taken st call true
      → IsTrue true ↔ (misfit (lengths own) call (lengths others) ≡ None)
      → Offers own st (lengths others) call (st, NotLent)
  offered_own_lengths taken passing =
      let none : misfit (made_sizes st) call (lengths others) ≡ None =
      subst (λ s. misfit s call (lengths others) ≡ None) (sym made) (passing.0 refl) in
      record {
        refuses = record {
          refused_for = λ part _ wrong. cc (sym wrong ∙ none);
          not_lent = λ _ _. refl;
          declined = λ no. absurd (no ((taken own).0 refl));
          kept = refl;
        };
        as_made = made;
      }

  module _ (taken : Taken st call true)
      (not_passing : IsTrue false ↔ (misfit (lengths own) call (lengths others) ≡ None)) where
    pub never_passes : misfit (made_sizes st) call (lengths others) ≡ None → ⊥
    never_passes none = cc (not_passing.1 (subst (λ s. misfit s call (lengths others) ≡ None) made none))

    module _ {TrueTo : Table L → Type 0} {kind : Kind L} {others' : Contents L}
        {r : StationCode L × Reply L} (hands : Hands kind TrueTo others others' st call r) where
      some_part : (first : Option Part) → misfit (made_sizes st) call (lengths others) ≡ first
          → (r.0 ≡ st) × (others' ≡ others)
      some_part None is = absurd (never_passes is)
      some_part (Some part) is =
          let left = hands.refuses part ((taken others).0 refl) is in (ap (λ x. x.0) left.0, left.1)

      pub offered_kept : (r.0 ≡ st) × (others' ≡ others)
      offered_kept = some_part (misfit (made_sizes st) call (lengths others)) refl

      pub offered_refused : Offers own st (lengths others) call r
      offered_refused = record {
        refuses = record {
          refused_for = λ part takes wrong. ap (λ x. x.1) (hands.refuses part ((taken others).0 refl) wrong).0;
          not_lent = λ takes none. absurd (never_passes none);
          declined = λ no. absurd (no ((taken own).0 refl));
          kept = ap (λ left. sited left own) offered_kept.0;
        };
        as_made = ap made_sizes offered_kept.0 ∙ made;
      }
