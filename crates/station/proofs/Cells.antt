-- Enters and looks at a memory of the right length, by whether there is such a cell.
use Rattle.std.proofs.Common.{◌≡◌, ℕ, zero, suc, Bool, true, false, cond, ◌<◌, ◌≤◌, [], ◌∷◌, List}
use Rattle.std.proofs.Common.{length, get_or, set, pos, Ok, Err, Result, refl, sym, ap, ◌∙◌, ◌==◌, arith}
use Rattle.std.proofs.lemmas.List.{set_past}
use Rattle.labels.specs.Kind.{Kind}
use Rattle.machine.specs.Numbers.{first_wrong}
use Rattle.machine.specs.Stations.{Answer, granted, shows, refused, looked}
use Rattle.machine.specs.Steps.{element}
use Rattle.machine.specs.declared.answers.Part.TheVariants.{Memory}
use Rattle.machine.specs.declared.answers.Refusal.{Refusal}
use Rattle.machine.specs.declared.answers.Refusal.TheVariants.{Length, Cell, Clearance}
use Rattle.machine.specs.declared.calls.Call.TheVariants.{Enter, Look}
use Rattle.machine.specs.declared.parts.Labelled.{Labelled}
use Rattle.steps.specs.Operations.{with_memory}
use Rattle.steps.proofs.Places.{element_read, element_past, place_there}
use Rattle.station.specs.Calls.{Serves, answered}
use Rattle.station.specs.Lengths.{checked}
use Rattle.station.specs.Views.{made_as, idle_with}
use Rattle.station.specs.declared.idle.Idle.{Idle}
use Rattle.station.proofs.Fitting.{no_misfit, fitted}

some_cell : {A B : Type 0} (else x : B) (xs : List A) (i : ℕ) → i < length xs → element xs i else (λ _. x) ≡ x
some_cell else x [] i inside = absurd (omega arith)
some_cell else x (y ∷ xs) zero inside = refl
some_cell else x (y ∷ xs) (suc i) inside = some_cell else x xs i (omega arith)

module _ {L : Type 0} (kind : Kind L) (st : Idle L) (memory : List (Labelled L)) (cell : ℕ)
    (fits : Ok tt ≡ checked Length (first_wrong (λ _. (length memory == st.sizes.memory)) (Memory ∷ []))) where
  -- what an enter and a look serve that leave this memory
  abbrev Entered : Labelled L → List (Labelled L) → Result (Unit {0}) Refusal → Type 0
  Entered v memory' r =
      Serves kind st.sizes (Enter cell v) (idle_with st) (with_memory memory) (idle_with st)
      (with_memory memory') (answered (λ _. granted) r)

  abbrev Looked : L → Result (Labelled L) Refusal → Type 0
  Looked clearance r =
      Serves kind st.sizes (Look cell clearance) (idle_with st) (with_memory memory) (idle_with st)
      (with_memory memory) (answered shows r)

  -- outside the memory
  pub none_to_enter : (v : Labelled L) {r : Result (Unit {0}) Refusal} → length memory ≤ cell
      → r ≡ Err Cell → Entered v memory r
  none_to_enter v outside err rest table = fitted kind (made_as rest.program st.sizes) _ _ (no_misfit _ fits)
      (ap (answered (λ _. granted)) err ∙ sym (element_past memory cell _ _ outside))
      (ap (λ m. idle_with st (with_memory m rest)) (sym (set_past memory cell v outside)))

  pub none_to_see : (clearance : L) {r : Result (Labelled L) Refusal} → length memory ≤ cell
      → r ≡ Err Cell → Looked clearance r
  none_to_see clearance outside err rest table = fitted kind (made_as rest.program st.sizes) _ _ (no_misfit _ fits)
      (ap (answered shows) err ∙ sym (element_past memory cell _ _ outside))
      refl

  -- inside it
  pub entered : (v : Labelled L) → cell < length memory → Entered v (set memory cell v) (Ok tt)
  entered v inside rest table =
      fitted kind (made_as rest.program st.sizes) _ _ (no_misfit _ fits)
      (sym (some_cell _ _ memory cell inside)) refl

  module _ (clearance : L) (x : Labelled L) (inside : cell < length memory) (read : x ≡ get_or memory cell x) where
    seen : (r : Result (Labelled L) Refusal) → answered shows r ≡ looked kind clearance x → Looked clearance r
    seen r is rest table = fitted kind (made_as rest.program st.sizes) _ _ (no_misfit _ fits)
        (is
        ∙ sym
        (place_there (refused Cell) (looked kind clearance) memory (pos cell) x
        (element_read memory cell x inside read)))
        refl

    abbrev shown_or : Bool → Answer L
    shown_or may = cond may (shows x) (refused Clearance)

    pub shown : true ≡ kind.below x.label clearance → Looked clearance (Ok x)
    shown may = seen (Ok x) (ap shown_or may)

    pub hidden : false ≡ kind.below x.label clearance → Looked clearance (Err Clearance)
    hidden may = seen (Err Clearance) (ap shown_or may)
