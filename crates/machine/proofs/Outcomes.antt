-- What holds of every outcome of a step: of the stops, and of what follows from what the step takes.
use Rattle.std.proofs.Common.{◌≡◌, ℕ, zero, suc, Bool, true, false, cond, List}
use Rattle.std.proofs.Common.{[], ◌∷◌, set, ℤ, pos, negsuc, Option, refl, ap, ◌∙◌}
use Rattle.labels.specs.Kind.{Kind}
use Rattle.rules.specs.Tables.{Table}
use Rattle.rules.specs.declared.Verdict.{Verdict}
use Rattle.machine.specs.Steps.{Setup, Round, Outcome, finished, later, stopped, element}
use Rattle.machine.specs.Steps.{at_place, set_place, provided, taking, taking_all, numbers_onto}
use Rattle.machine.specs.Steps.{nearest_frame, ruled, halts, with_fuel, halted, tried, step}
use Rattle.machine.specs.declared.answers.Stop.{Stop}
use Rattle.machine.specs.declared.answers.Stop.TheVariants.{OutsideProgram, HaltAboveBottom}
use Rattle.machine.specs.declared.parts.Labelled.{Labelled}
use Rattle.machine.specs.declared.parts.Frame.{Frame as ReturnFrame}
use Rattle.machine.specs.declared.parts.Entry.{Entry}
use Rattle.machine.specs.declared.parts.Entry.TheVariants.{Number, Frame}
use Rattle.machine.specs.declared.parts.Operation.{Operation}
use Rattle.machine.proofs.Flows.{On, forbids, allows}

-- Q holds of every stop.
pub record AtStops {L : Type 0} (Q : Outcome L → Type 0) : Type 0 where
  pub stops : (n : Stop) → Q (stopped n)

module _ {L : Type 0} {Q : Outcome L → Type 0} (at : AtStops Q) where
  pub provided_any : (n : Stop) (b : Bool) {x : Outcome L} → (b ≡ true → Q x) → Q (provided b n x)
  provided_any n true h = h refl
  provided_any n false h = at.stops n

  pub taking_any : (es : List (Entry L)) {k : Labelled L → List (Entry L) → Outcome L}
      → ((a : Labelled L) (us : List (Entry L)) → es ≡ Number a ∷ us → Q (k a us)) → Q (taking es k)
  taking_any [] f = at.stops _
  taking_any (Number a ∷ es) f = f a es refl
  taking_any (Frame g ∷ es) f = at.stops _

  pub taking_all_any : (n : ℕ) (es : List (Entry L)) {k : List (Labelled L) → List (Entry L) → Outcome L}
      → ((xs : List (Labelled L)) (us : List (Entry L)) → es ≡ numbers_onto xs us → Q (k xs us)) → Q (taking_all n es k)
  taking_all_any zero es f = f [] es refl
  taking_all_any (suc n) es f =
      taking_any es
      λ a us e. taking_all_any n us λ xs vs d. f (a ∷ xs) vs (e ∙ ap (λ t. Number a ∷ t) d)

  pub nearest_frame_any : (es : List (Entry L)) {k : ReturnFrame L → List (Entry L) → Outcome L}
      → ((xs : List (Labelled L)) (f : ReturnFrame L) (us : List (Entry L))
      → es ≡ numbers_onto xs (Frame f ∷ us) → Q (k f us))
      → Q (nearest_frame es k)
  nearest_frame_any [] f = at.stops _
  nearest_frame_any (Number a ∷ es) f = nearest_frame_any es λ xs g us e. f (a ∷ xs) g us (ap (λ t. Number a ∷ t) e)
  nearest_frame_any (Frame g ∷ es) f = f [] g es refl

  -- what stands at a place: to put it there again changes nothing
  pub at_place_any : {A : Type 0} (xs : List A) (z : ℤ) (n : Stop) {k : A → Outcome L}
      → ((x : A) → set_place xs z x ≡ xs → Q (k x)) → Q (at_place xs z (stopped n) k)
  at_place_any xs (negsuc i) n f = at.stops n
  at_place_any {A} xs (pos i) n {k} f = elements xs i f
    where
      elements : (xs : List A) (i : ℕ) → ((x : A) → set xs i x ≡ xs → Q (k x)) → Q (element xs i (stopped n) k)
      elements [] i f = at.stops n
      elements (x ∷ xs) zero f = f x refl
      elements (x ∷ xs) (suc i) f = elements xs i (λ y e. f y (ap (λ t. x ∷ t) e))

  pub ruled_any : {F : L → L → Type 0} {x : Option (Verdict L)} {k : L → L → Outcome L} → On F x
      → ((N R : L) → F N R → Q (k N R))
      → Q (ruled x k)
  ruled_any forbids f = at.stops _
  ruled_any (allows q) f = f _ _ q

  -- a halt: finished only at the bottom label
  pub halted_any : (kind : Kind L) (table : Table L) (setup : Setup L) (s : Round L)
      → (kind.below s.pc_label kind.bottom ≡ true → Q finished) → Q (halted kind table setup s)
  halted_any kind table setup s finish = tested (kind.below s.pc_label kind.bottom) refl
    where
      tested : (b : Bool) → kind.below s.pc_label kind.bottom ≡ b → Q (cond b finished (stopped HaltAboveBottom))
      tested true e = finish e
      tested false e = at.stops HaltAboveBottom

  -- a step: later only without fuel, and an operation tried only with some
  pub step_any : (kind : Kind L) (table : Table L) (setup : Setup L) (fuel : ℕ) (s : Round L) → (fuel ≡ 0 → Q later)
      → (kind.below s.pc_label kind.bottom ≡ true → Q finished)
      → ((n : ℕ) → fuel ≡ suc n → (op : Operation L) → Q (tried kind table setup op s))
      → Q (step kind table setup fuel s)
  step_any kind table setup fuel s wait finish try =
      at_place_any setup.program s.pc OutsideProgram
      λ op _. tested (halts op) (halted_any kind table setup s finish) (fueled op fuel refl)
    where
      tested : (b : Bool) {x y : Outcome L} → Q x → Q y → Q (cond b x y)
      tested true h k = h
      tested false h k = k

      fueled : (op : Operation L) (f : ℕ) → fuel ≡ f → Q (with_fuel f (tried kind table setup op s))
      fueled op zero e = wait e
      fueled op (suc n) e = try n e op
