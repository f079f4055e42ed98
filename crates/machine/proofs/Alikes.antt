-- Numbers, memories and stacks that an observer at o cannot tell apart.
use Rattle.std.proofs.Common.{◌≡◌, Bool, true, false, cond, List, [], ◌∷◌, ℤ, sym, refl, ap, subst, ap₂, inl, inr}
use Rattle.labels.specs.Kind.{Kind}
use Rattle.machine.specs.Lists.{Each, none, more}
use Rattle.machine.specs.Observer.{Alike}
use Rattle.machine.specs.Steps.{◌at◌, set_place}
use Rattle.machine.specs.declared.parts.Labelled.{Labelled}
use Rattle.machine.specs.declared.parts.Frame.{Frame as ReturnFrame}
use Rattle.machine.specs.declared.parts.Entry.{Entry}
use Rattle.machine.specs.declared.parts.Entry.TheVariants.{Number, Frame}
use Rattle.machine.proofs.Hiding.{Hidden, Covers, AlikeLabels}
use Rattle.machine.proofs.Lists.{each_refl, each_sym, each_trans, each_set_place}

module _ {L : Type 0} (kind : Kind L) (o : L) where
  -- to be alike is an equivalence
  pub alike_refl : (v : Labelled L) → Alike kind o v v
  alike_refl v = inl refl

  pub alike_sym : (v w : Labelled L) → Alike kind o v w → Alike kind o w v
  alike_sym v w (inl e) = inl (sym e)
  alike_sym v w (inr h) = inr (h.1, h.0)

  pub alike_trans : (v w x : Labelled L) → Alike kind o v w → Alike kind o w x → Alike kind o v x
  alike_trans v w x (inl e) h = subst (λ (y : Labelled L). Alike kind o y x) (sym e) h
  alike_trans v w x (inr h) (inl e) = inr (h.0, subst (λ (y : Labelled L). Hidden kind o y.label) e h.1)
  alike_trans v w x (inr h) (inr k) = inr (h.0, k.1)

  pub labels_alike : {v w : Labelled L} → Alike kind o v w → AlikeLabels kind o v.label w.label
  labels_alike (inl e) = inl (ap (λ (x : Labelled L). x.label) e)
  labels_alike (inr h) = inr h

  -- one number with alike labels
  pub same_number : (n : ℤ) {r s : L} → AlikeLabels kind o r s → Alike kind o (n at r) (n at s)
  same_number n (inl e) = inl (ap (λ l. n at l) e)
  same_number n (inr h) = inr h

  -- what is worked out of an alike number, with alike labels that cover its label, is alike
  pub alike_one : (f : ℤ → ℤ) {v w : Labelled L} {r s : L} → Alike kind o v w → AlikeLabels kind o r s
      → Covers kind o v.label r → Covers kind o w.label s → Alike kind o (f v.value at r) (f w.value at s)
  alike_one f (inl e) (inl d) v_covers w_covers = inl (ap₂ (λ (x : Labelled L) l. f x.value at l) e d)
  alike_one f (inr h) (inl d) v_covers w_covers = inr (v_covers h.0, w_covers h.1)
  alike_one f a (inr h) v_covers w_covers = inr h

  -- a copy of it among them
  pub alike_copy : {v w : Labelled L} {r s : L} → Alike kind o v w → AlikeLabels kind o r s
      → Covers kind o v.label r → Covers kind o w.label s → Alike kind o (v.value at r) (w.value at s)
  alike_copy = alike_one (λ n. n)

  -- and so is what is worked out of two alike numbers
  pub alike_two : (f : ℤ → ℤ → ℤ) {v w x y : Labelled L} {r s : L} → Alike kind o v w
      → Alike kind o x y → AlikeLabels kind o r s
      → Covers kind o v.label r → Covers kind o w.label s → Covers kind o x.label r → Covers kind o y.label s
      → Alike kind o (f v.value x.value at r) (f w.value y.value at s)
  alike_two f {v} {w} {x} {y} {r} {s} (inl e) b t v_covers w_covers x_covers y_covers =
      subst (λ (u : Labelled L). Alike kind o (f v.value x.value at r) (f u.value y.value at s)) e
      (alike_one (f v.value) b t x_covers y_covers)
  alike_two f (inr h) b (inl d) v_covers w_covers x_covers y_covers = inr (v_covers h.0, w_covers h.1)
  alike_two f (inr h) b (inr k) v_covers w_covers x_covers y_covers = inr k

  abbrev pub Memories : List (Labelled L) → List (Labelled L) → Type 0
  Memories = Each (Alike kind o)

  pub memories_refl : (m : List (Labelled L)) → Memories m m
  memories_refl = each_refl alike_refl

  pub memories_sym : {m n : List (Labelled L)} → Memories m n → Memories n m
  memories_sym = each_sym alike_sym

  pub memories_trans : {m n k : List (Labelled L)} → Memories m n → Memories n k → Memories m k
  memories_trans = each_trans alike_trans

  -- A hidden number in place of a hidden one leaves an alike memory.
  pub overwritten : (m : List (Labelled L)) (z : ℤ) (v w : Labelled L) → set_place m z v ≡ m → Hidden kind o v.label
      → Hidden kind o w.label → Memories m (set_place m z w)
  overwritten m z v w e hv hw =
      subst (λ (n : List (Labelled L)). Memories n (set_place m z w)) e
      (each_set_place z refl (memories_refl m) (inr (hv, hw)))

  -- Stack entries are alike if they are alike numbers or the same frame.
  pub data AlikeEntry : Entry L → Entry L → Type 0 where
    alike_number : {v w : Labelled L} → Alike kind o v w → AlikeEntry (Number v) (Number w)
    same_frame : {f g : ReturnFrame L} → f ≡ g → AlikeEntry (Frame f) (Frame g)

  abbrev pub Stacks : List (Entry L) → List (Entry L) → Type 0
  Stacks = Each AlikeEntry

  pub stacks_sym : {s t : List (Entry L)} → Stacks s t → Stacks t s
  stacks_sym = each_sym turned
    where
      turned : (x y : Entry L) → AlikeEntry x y → AlikeEntry y x
      turned x y (alike_number h) = alike_number (alike_sym _ _ h)
      turned x y (same_frame e) = same_frame (sym e)

  -- What a stack tells while the program counter is hidden: all from the topmost visible frame down.
  abbrev pub crop : List (Entry L) → List (Entry L)
  crop [] = []
  crop (Number v ∷ s) = crop s
  crop (Frame f ∷ s) = cond (kind.below f.label o) (Frame f ∷ s) (crop s)

  pub crops : {s t : List (Entry L)} → Stacks s t → Stacks (crop s) (crop t)
  crops none = none
  crops (more (alike_number h) r) = crops r
  crops (more {xs = s} {ys = t} (same_frame {f} {g} e) r) =
      subst (λ (h : ReturnFrame L). Stacks (crop (Frame f ∷ s)) (crop (Frame h ∷ t))) e
      (tested (kind.below f.label o) r (crops r))
    where
      tested : (b : Bool) {c d : List (Entry L)} → Stacks s t → Stacks c d
          → Stacks (cond b (Frame f ∷ s) c) (cond b (Frame f ∷ t) d)
      tested true h k = more (same_frame refl) h
      tested false h k = k
