-- Where a table forbids everything no operation is done.
use Rattle.std.proofs.Common.{◌≡◌, ℕ, zero, suc, None, refl}
use Rattle.labels.specs.Kind.{Kind}
use Rattle.machine.specs.Laws.{ForbiddenDoesNothing}
use Rattle.machine.specs.Stations.{Station, idle, running, shut, Gone, kept_by, settled, gone}
use Rattle.machine.specs.Steps.{Setup, Round, Outcome}
use Rattle.machine.proofs.Changes.{ComesTo, to_finish, to_later, to_stop, to_done, step_comes_to}

-- a go that took no step and changed neither memory nor commands
record Still {L : Type 0} (st : Station L) (g : Gone L) : Type 0 where
  steps : g.steps ≡ 0
  keeps : kept_by g.station ≡ kept_by st

module _ {L : Type 0} (kind : Kind L) (setup : Setup L) where
  settled_still : {fuel : ℕ} {s : Round L} (on : Round L → Gone L) {x : Outcome L} → ComesTo (λ _. None) setup fuel s x
      → Still (running s) (settled s x on)
  settled_still on to_finish = record { steps = refl; keeps = refl }
  settled_still on (to_later e) = record { steps = refl; keeps = refl }
  settled_still on to_stop = record { steps = refl; keeps = refl }
  settled_still on (to_done e d) = absurd (d.allowed.1 refl)

  gone_still : (fuel : ℕ) (st : Station L) → Still st (gone kind setup (λ _. None) fuel st)
  gone_still fuel (idle kept) = record { steps = refl; keeps = refl }
  gone_still zero (running s) = settled_still _ (step_comes_to kind (λ _. None) setup zero s)
  gone_still (suc fuel) (running s) = settled_still _ (step_comes_to kind (λ _. None) setup (suc fuel) s)
  gone_still fuel (shut stop place kept) = record { steps = refl; keeps = refl }

pub forbidden_does_nothing : {L : Type 0} (kind : Kind L) → ForbiddenDoesNothing kind
forbidden_does_nothing kind = record {
  steps = λ setup fuel st. (gone_still kind setup fuel st).steps;
  keeps = λ setup fuel st. (gone_still kind setup fuel st).keeps;
}
