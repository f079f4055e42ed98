-- What lasts over any calls: commands, the length of the memory, and a shut station.
use Rattle.std.proofs.Common.{ℕ, List, sym, ◌∙◌, length-set}
use Rattle.labels.specs.Kind.{Kind}
use Rattle.rules.specs.Tables.{Table}
use Rattle.machine.specs.Calls.{LentCall}
use Rattle.machine.specs.Laws.{CommandsGrow, MemoryKeepsLength, ShutForGood}
use Rattle.machine.specs.Stations.{Station, shut, kept_by, after_all}
use Rattle.machine.specs.Steps.{Setup, Kept, Round, Outcome}
use Rattle.machine.proofs.Changes.{Follows, follows_refl, follows_trans, ComesTo}
use Rattle.machine.proofs.Changes.{to_finish, to_later, to_stop, to_done, step_comes_to}
use Rattle.machine.proofs.Lists.{begins_refl}
use Rattle.machine.proofs.Moves.{Move, moved, run, flat, run_flat, run_shut}
use Rattle.machine.proofs.Moves.{Invariant, moved_keeps, run_keeps, calls_keep}
use Rattle.machine.proofs.SideBySide.{settle}

module _ {L : Type 0} (kind : Kind L) (setup : Setup L) where
  -- a station that follows what was kept before
  abbrev pub After : Kept L → Station L → Type 0
  After kept st = Follows kept (kept_by st)

  settle_lasts : {table : Table L} {fuel : ℕ} {s : Round L} {x : Outcome L} → ComesTo table setup fuel s x
      → After s.kept (settle s x)
  settle_lasts {s} to_finish = follows_refl s.kept
  settle_lasts {s} (to_later e) = follows_refl s.kept
  settle_lasts {s} to_stop = follows_refl s.kept
  settle_lasts (to_done e d) = d.follows

  lasts : (before : Kept L) → Invariant kind setup (After before)
  lasts before = record {
    entering =
        λ kept cell v h.
        follows_trans h
        (record { grows = begins_refl kept.commands; as_long = length-set kept.memory cell v });
    starting = λ kept h. h;
    stepping = λ table fuel s h. follows_trans h (settle_lasts (step_comes_to kind table setup fuel s));
  }

  pub moved_lasts : (st : Station L) (move : Move L) → After (kept_by st) (moved kind setup st move)
  moved_lasts st move = moved_keeps kind setup (lasts (kept_by st)) st move (follows_refl (kept_by st))

  pub run_lasts : (st : Station L) (moves : List (Move L)) → After (kept_by st) (run kind setup st moves)
  run_lasts st moves = run_keeps kind setup (lasts (kept_by st)) st moves (follows_refl (kept_by st))

  calls_last : (st : Station L) (calls : List (LentCall L)) → After (kept_by st) (after_all kind setup st calls)
  calls_last st calls = calls_keep kind setup (lasts (kept_by st)) st calls (follows_refl (kept_by st))

module _ {L : Type 0} (kind : Kind L) where
  pub commands_grow : CommandsGrow kind
  commands_grow setup st calls = (calls_last kind setup st calls).grows

  pub memory_keeps_length : MemoryKeepsLength kind
  memory_keeps_length setup st calls = (calls_last kind setup st calls).as_long

  pub shut_for_good : ShutForGood kind
  shut_for_good setup stop place kept calls =
      sym (run_flat kind setup (shut stop place kept) calls)
      ∙ run_shut kind setup stop place kept (flat kind setup calls)
