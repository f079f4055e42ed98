-- From the making on, the stack and the log hold no more than their sizes.
use Rattle.std.proofs.Common.{ℕ, arith}
use Rattle.labels.specs.Kind.{Kind}
use Rattle.rules.specs.Tables.{Table}
use Rattle.machine.specs.Laws.{Within, WithinSizes}
use Rattle.machine.specs.Observer.{setup_of}
use Rattle.machine.specs.Stations.{Station, running, made}
use Rattle.machine.specs.Steps.{Setup, Round, Outcome}
use Rattle.machine.proofs.Changes.{ComesTo, to_finish, to_later, to_stop, to_done, step_comes_to}
use Rattle.machine.proofs.Moves.{Invariant, calls_keep}
use Rattle.machine.proofs.SideBySide.{settle}

module _ {L : Type 0} (kind : Kind L) (setup : Setup L) where
  abbrev Fits : Station L → Type 0
  Fits = Within kind setup.sizes

  settle_fits : {table : Table L} {fuel : ℕ} {s : Round L} {x : Outcome L}
      → ComesTo table setup fuel s x → Fits (running s)
      → Fits (settle s x)
  settle_fits to_finish h = h.1
  settle_fits (to_later e) h = h
  settle_fits to_stop h = h.1
  settle_fits (to_done e d) h = (d.depth h.0, d.room h.1)

  fits : Invariant kind setup Fits
  fits = record {
    entering = λ kept cell v h. h;
    starting = λ kept h. (omega arith, h);
    stepping = λ table fuel s h. settle_fits (step_comes_to kind table setup fuel s) h;
  }

pub within_sizes : {L : Type 0} (kind : Kind L) → WithinSizes kind
within_sizes kind h = calls_keep kind (setup_of h) (fits kind (setup_of h)) (made h.memory) h.calls (omega arith)
