-- Looks into idle stations, and what they are answered.
use Rattle.std.proofs.Common.{◌≡◌, ℕ, zero, suc, ◌<◌, ◌≤◌, Bool, true, false, cond, List, [], ◌∷◌, length, None}
use Rattle.std.proofs.Common.{refl, sym, ap, ◌∙◌, subst, ◌⊎◌, inl, inr, ⊎_elim, arith}
use Rattle.std.proofs.lemmas.Bool.{eq-eqb}
use Rattle.labels.specs.Kind.{Kind, Lawful}
use Rattle.machine.specs.Stations.{Station, Answer, shows, refused, Idle, looked, memory_of}
use Rattle.machine.specs.Steps.{element}
use Rattle.machine.specs.declared.answers.Refusal.{Refusal}
use Rattle.machine.specs.declared.answers.Refusal.TheVariants.{Cell, Clearance}
use Rattle.machine.specs.declared.calls.Call.TheVariants.{Look}
use Rattle.machine.specs.declared.parts.Labelled.{Labelled}
use Rattle.sites.specs.Calls.{Sited, Does, Says}
use Rattle.sites.specs.declared.replies.Reply.{Reply}
use Rattle.sites.specs.declared.replies.Reply.TheVariants as reply
use Rattle.compare.specs.Reports.{look_at, SameBelow}
use Rattle.compare.specs.Tests.{SameLook, same_shown, same_refused}

pub inside_or_beyond : (cell n : ℕ) → (cell < n) ⊎ (n ≤ cell)
inside_or_beyond cell zero = inr (omega arith)
inside_or_beyond zero (suc n) = inl (omega arith)
inside_or_beyond (suc cell) (suc n) = ⊎_elim (λ lt. inl (omega arith)) (λ le. inr (omega arith))
    (inside_or_beyond cell n)

module _ {L : Type 0} where
  -- A reply that says what a look is answered is the one that shows or refuses it.
  says_shown : (r : Reply L) (left : Station L) (v : Labelled L) → Says r (shows v) left → r ≡ reply.Shown v
  says_shown reply.Entered left v says = cc says.0
  says_shown reply.Started left v says = cc says.0
  says_shown (reply.Gone steps told) left v says = cc says.0
  says_shown (reply.NotTaken told) left v says = absurd says
  says_shown reply.NotLent left v says = absurd says
  says_shown r left v says = cc says

  says_refused : (r : Reply L) (left : Station L) (why : Refusal) → Says r (refused why) left → r ≡ reply.Refused why
  says_refused reply.Entered left why says = cc says.0
  says_refused reply.Started left why says = cc says.0
  says_refused (reply.Gone steps told) left why says = cc says.0
  says_refused (reply.NotTaken told) left why says = absurd says
  says_refused reply.NotLent left why says = absurd says
  says_refused r left why says = cc says

  pub shown_same : (v w : Labelled L) → SameLook (reply.Shown v) (reply.Shown w) → v ≡ w
  shown_same v w same_shown = refl

  pub refused_same : (why other : Refusal) → SameLook {L = L} (reply.Refused why) (reply.Refused other) → why ≡ other
  refused_same why other same_refused = refl

  -- Two such replies are the same if they say the same answer, and only then.
  pub same_said : (first second : Reply L) (left left' : Station L) (a b : Answer L) → Says first a left
      → Says second b left' → SameLook first second → a ≡ b
  same_said first second left left' a b says says' same_shown = says ∙ sym says'
  same_said first second left left' a b says says' same_refused = says ∙ sym says'

  -- what a look may be answered
  abbrev pub OfLook : Answer L → Type 0
  OfLook a = ((v : Labelled L) × (a ≡ shows v)) ⊎ ((why : Refusal) × (a ≡ refused why))

  pub said_same : (first second : Reply L) (left left' : Station L) (a b : Answer L) → Says first a left
      → Says second b left' → OfLook a → a ≡ b → SameLook first second
  said_same first second left left' a b says says' (inl shown) same =
      rw (
        says_shown first left shown.0 (subst (λ x. Says first x left) shown.1 says),
        says_shown second left' shown.0 (subst (λ x. Says second x left') (sym same ∙ shown.1) says'),
      ) same_shown
  said_same first second left left' a b says says' (inr refusal) same =
      rw (
        says_refused first left refusal.0 (subst (λ x. Says first x left) refusal.1 says),
        says_refused second left' refusal.0 (subst (λ x. Says second x left') (sym same ∙ refusal.1) says'),
      ) same_refused

module _ {L : Type 0} (kind : Kind L) (o : L) where
  looked_is : (v : Labelled L) → OfLook (looked kind o v)
  looked_is v = tested (kind.below v.label o)
    where
      tested : (b : Bool) → OfLook (cond b (shows v) (refused Clearance))
      tested true = inl (v, refl)
      tested false = inr (Clearance, refl)

  element_is : (cell : ℕ) (memory : List (Labelled L)) → OfLook (element memory cell (refused Cell) (looked kind o))
  element_is cell [] = inr (Cell, refl)
  element_is zero (v ∷ memory) = looked_is v
  element_is (suc cell) (v ∷ memory) = element_is cell memory

  beyond : (cell : ℕ) (memory : List (Labelled L)) → length memory ≤ cell
      → element memory cell (refused Cell) (looked kind o) ≡ refused Cell
  beyond cell [] over = refl
  beyond zero (v ∷ memory) over = absurd (omega arith)
  beyond (suc cell) (v ∷ memory) over = beyond cell memory (omega arith)

  -- A look into a station's own memory is refused for no length.
  fits : (site : Sited L) (cell : ℕ) → look_at kind o site cell ≡ element (memory_of site.station) cell (refused Cell)
      (looked kind o)
  fits site cell = rw (eq-eqb site.setup.sizes.memory site.setup.sizes.memory refl) refl

  pub look_is : (site : Sited L) (cell : ℕ) → OfLook (look_at kind o site cell)
  look_is site cell = subst OfLook (sym (fits site cell)) (element_is cell (memory_of site.station))

  pub look_beyond : (site : Sited L) (cell : ℕ) → length (memory_of site.station) ≤ cell
      → look_at kind o site cell ≡ refused Cell
  look_beyond site cell over = fits site cell ∙ beyond cell (memory_of site.station) over

  -- the reply to a look into an idle station
  pub look_says : (site : Sited L) (cell : ℕ) (r : Reply L) → Idle site.station
      → Does kind (λ _. Unit {0}) site (Look cell o) site r → Says r (look_at kind o site cell) site.station
  look_says site cell r idle does = (does.taken (λ _. None) (λ _. tt) idle).says

module _ {L : Type 0} {kind : Kind L} (laws : Lawful kind) (o clearance : L) (low : kind.below clearance o ≡ true) where
  hidden_below : (v : Labelled L) → kind.below v.label o ≡ false → looked kind clearance v ≡ refused Clearance
  hidden_below v hidden = by_test (kind.below v.label clearance) refl
    where
      by_test : (b : Bool) → kind.below v.label clearance ≡ b → cond b (shows v) (refused Clearance) ≡ refused Clearance
      by_test true is = cc (sym hidden ∙ laws.transitive v.label clearance o is low)
      by_test false is = refl

  -- Cells that answer a look the same answer one with a lower clearance the same.
  cells_below : (v w : Labelled L) → looked kind o v ≡ looked kind o w
      → looked kind clearance v ≡ looked kind clearance w
  cells_below v w same = by_tests (kind.below v.label o) (kind.below w.label o) refl refl
    where
      as_tested : {a b : Bool} → kind.below v.label o ≡ a → kind.below w.label o ≡ b
          → cond a (shows v) (refused Clearance) ≡ cond b (shows w) (refused Clearance)
      as_tested is is' = ap (λ x. cond x (shows v) (refused Clearance)) (sym is) ∙ same
          ∙ ap (λ x. cond x (shows w) (refused Clearance)) is'

      by_tests : (a b : Bool) → kind.below v.label o ≡ a → kind.below w.label o ≡ b
          → looked kind clearance v ≡ looked kind clearance w
      by_tests true true is is' = let e : shows v ≡ shows w = as_tested is is' in let is_v : v ≡ w =
          cc e in ap (looked kind clearance) is_v
      by_tests true false is is' = let e : shows v ≡ refused Clearance = as_tested is is' in cc e
      by_tests false true is is' = let e : refused Clearance ≡ shows w = as_tested is is' in cc e
      by_tests false false is is' = hidden_below v is ∙ sym (hidden_below w is')

  never_beyond : (v : Labelled L) → (looked kind o v ≡ refused Cell) → ⊥
  never_beyond v same = by_test (kind.below v.label o) same
    where
      by_test : (b : Bool) → cond b (shows v) (refused Clearance) ≡ refused Cell → ⊥
      by_test true e = cc e
      by_test false e = cc e

  elements_below : (cell : ℕ) (m n : List (Labelled L))
      → element m cell (refused Cell) (looked kind o) ≡ element n cell (refused Cell) (looked kind o)
      → element m cell (refused Cell) (looked kind clearance) ≡ element n cell (refused Cell) (looked kind clearance)
  elements_below cell [] [] same = refl
  elements_below zero [] (w ∷ n) same = absurd (never_beyond w (sym same))
  elements_below zero (v ∷ m) [] same = absurd (never_beyond v same)
  elements_below zero (v ∷ m) (w ∷ n) same = cells_below v w same
  elements_below (suc cell) [] (w ∷ n) same = beyond_below cell n same
    where
      beyond_below : (cell : ℕ) (n : List (Labelled L)) → refused Cell ≡ element n cell (refused Cell) (looked kind o)
          → refused Cell ≡ element n cell (refused Cell) (looked kind clearance)
      beyond_below cell [] same = refl
      beyond_below zero (w ∷ n) same = absurd (never_beyond w (sym same))
      beyond_below (suc cell) (w ∷ n) same = beyond_below cell n same
  elements_below (suc cell) (v ∷ m) [] same = beyond_below cell m same
    where
      beyond_below : (cell : ℕ) (m : List (Labelled L)) → element m cell (refused Cell) (looked kind o) ≡ refused Cell
          → element m cell (refused Cell) (looked kind clearance) ≡ refused Cell
      beyond_below cell [] same = refl
      beyond_below zero (w ∷ n) same = absurd (never_beyond w same)
      beyond_below (suc cell) (w ∷ n) same = beyond_below cell n same
  elements_below (suc cell) (v ∷ m) (w ∷ n) same = elements_below cell m n same

pub same_below : {L : Type 0} {kind : Kind L} → Lawful kind → SameBelow kind
same_below {L} {kind} laws o clearance low one two same cell =
    fits kind clearance one cell
    ∙ elements_below laws o clearance low cell (memory_of one.station) (memory_of two.station)
    (sym (fits kind o one cell) ∙ same cell ∙ fits kind o two cell)
    ∙ sym (fits kind clearance two cell)
