-- What an enter changes, and that a refused call changes nothing.
use Rattle.std.proofs.Common.{◌≡◌, ℕ, zero, suc, Bool, true, cond, List, [], ◌∷◌}
use Rattle.std.proofs.Common.{set, Some, None, Option, sym, refl, ap, ◌∙◌, subst}
use Rattle.labels.specs.Kind.{Kind}
use Rattle.rules.specs.Tables.{Table}
use Rattle.machine.specs.Laws.{RefusedChangesNothing, EnteredIsShown}
use Rattle.machine.specs.Calls.{misfit}
use Rattle.machine.specs.Stations.{Station, idle, running, shut, Answer, granted, shows}
use Rattle.machine.specs.Stations.{refused, fitting, memory_of, entered, looked, reply, effect}
use Rattle.machine.specs.Steps.{Setup, Kept, element}
use Rattle.machine.specs.declared.answers.Part.{Part}
use Rattle.machine.specs.declared.answers.Refusal.{Refusal}
use Rattle.machine.specs.declared.answers.Refusal.TheVariants.{Length, Cell, Clearance}
use Rattle.machine.specs.declared.calls.Call.{Call}
use Rattle.machine.specs.declared.calls.Call.TheVariants.{Enter, Start, Go}
use Rattle.machine.specs.declared.parts.Labelled.{Labelled}

module _ {L : Type 0} where
  abbrev Refuses : Answer L → Type 0
  Refuses (refused why) = Unit {0}
  Refuses given = ⊥

  refuses : {x : Answer L} {why : Refusal} → x ≡ refused why → Refuses x
  refuses e = subst Refuses (sym e) tt

  -- a cell that is refused is outside, and nothing is written
  outside : (m : List (Labelled L)) (cell : ℕ) (v : Labelled L) → Refuses (element m cell (refused Cell) (λ _. granted))
      → set m cell v ≡ m
  outside [] cell v h = refl
  outside (x ∷ m) zero v h = absurd h
  outside (x ∷ m) (suc cell) v h = ap (λ r. x ∷ r) (outside m cell v h)

module _ {L : Type 0} (kind : Kind L) where
  refused_effect : (setup : Setup L) (table : Table L) (st : Station L) (call : Call L)
      → Refuses (reply kind setup table st call)
      → effect kind setup table st call ≡ st
  refused_effect setup table (idle kept) (Enter cell v) h =
      ap (λ m. idle (record { memory = m; commands = kept.commands })) (outside kept.memory cell v h)
  refused_effect setup table st Start h = absurd h
  refused_effect setup table st (Go fuel) h = absurd h
  refused_effect setup table st call h = refl

  pub refused_changes_nothing : RefusedChangesNothing kind
  refused_changes_nothing setup st made why e = fits (misfit setup.sizes made.call made.lens) (refuses e)
    where
      fits : (x : Option Part)
          → Refuses
          (fitting x (λ part. refused (Length part)) (reply kind setup made.table st made.call))
          → fitting x (λ _. st) (effect kind setup made.table st made.call) ≡ st
      fits None h = refused_effect setup made.table st made.call h
      fits (Some part) h = refl

module _ {L : Type 0} where
  abbrev Grants : Answer L → Type 0
  Grants granted = Unit {0}
  Grants given = ⊥

  -- a cell that was written holds what was written, and the others what they held
  module _ (then : Labelled L → Answer L) where
    written : (m : List (Labelled L)) (cell : ℕ) (v : Labelled L)
        → Grants (element m cell (refused Cell) (λ _. granted))
        → element (set m cell v) cell (refused Cell) then ≡ then v
    written [] cell v g = absurd g
    written (x ∷ m) zero v g = refl
    written (x ∷ m) (suc cell) v g = written m cell v g

    unwritten : (m : List (Labelled L)) (cell other : ℕ) (v : Labelled L) → (other ≡ cell → ⊥)
        → element (set m cell v) other (refused Cell) then ≡ element m other (refused Cell) then
    unwritten [] cell other v h = refl
    unwritten (x ∷ m) zero zero v h = absurd (h refl)
    unwritten (x ∷ m) zero (suc other) v h = refl
    unwritten (x ∷ m) (suc cell) zero v h = refl
    unwritten (x ∷ m) (suc cell) (suc other) v h = unwritten m cell other v (λ e. h (ap suc e))

module _ {L : Type 0} (kind : Kind L) where
  abbrev refusing : Option Part → Answer L → Answer L
  refusing x = fitting x (λ part. refused (Length part))

  shown_there : (x : Option Part) (kept : Kept L) (cell : ℕ) (v : Labelled L) (clearance : L)
      → Grants (refusing x (element kept.memory cell (refused Cell) (λ _. granted)))
      → kind.below v.label clearance ≡ true
      → refusing x
      (element (memory_of (fitting x (λ _. idle kept) (entered cell v (idle kept)))) cell
      (refused Cell) (looked kind clearance))
      ≡ shows v
  shown_there None kept cell v clearance g low =
      written (looked kind clearance) kept.memory cell v g
      ∙ ap (λ (b : Bool). cond b (shows v) (refused Clearance)) low
  shown_there (Some part) kept cell v clearance g low = absurd g

  shown_elsewhere : (x : Option Part) (st : Station L) (cell other : ℕ) (v : Labelled L)
      (clearance : L)
      → (other ≡ cell → ⊥)
      → refusing x
      (element (memory_of (fitting x (λ _. st) (entered cell v st))) other (refused Cell)
      (looked kind clearance))
      ≡ refusing x (element (memory_of st) other (refused Cell) (looked kind clearance))
  shown_elsewhere None (idle kept) cell other v clearance h =
      unwritten (looked kind clearance) kept.memory cell other v h
  shown_elsewhere None (running s) cell other v clearance h = refl
  shown_elsewhere None (shut stop place kept) cell other v clearance h = refl
  shown_elsewhere (Some part) st cell other v clearance h = refl

  pub entered_is_shown : EnteredIsShown kind
  entered_is_shown = record {
    there = λ setup kept lens table cell v clearance e low.
        shown_there (misfit setup.sizes (Enter cell v) lens) kept cell v clearance (subst Grants (sym e) tt) low;
    elsewhere = λ setup st lens table cell other v clearance h.
        shown_elsewhere (misfit setup.sizes (Enter cell v) lens) st cell other v clearance h;
  }
