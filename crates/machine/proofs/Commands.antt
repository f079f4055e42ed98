-- The commands that an observer at o sees.
use Rattle.std.proofs.Common.{◌≡◌, Bool, true, false, cond, List, [], ◌∷◌, ◌++◌}
use Rattle.std.proofs.Common.{sym, refl, ap, ◌∙◌, subst, ap₂, inl, inr, append-nil}
use Rattle.labels.specs.Kind.{Kind}
use Rattle.machine.specs.Lists.{Begins, ends, goes_on}
use Rattle.machine.specs.Observer.{Alike, visible}
use Rattle.machine.specs.declared.parts.Labelled.{Labelled}
use Rattle.machine.proofs.Hiding.{Hidden}

module _ {L : Type 0} (kind : Kind L) (o : L) where
  -- two lists of commands look the same
  abbrev pub Shown : List (Labelled L) → List (Labelled L) → Type 0
  Shown c d = visible kind o c ≡ visible kind o d

  visible_append : (c d : List (Labelled L)) → visible kind o (c ++ d) ≡ visible kind o c ++ visible kind o d
  visible_append [] d = refl
  visible_append (v ∷ c) d = tested (kind.below v.label o) (visible kind o c) (visible kind o d) (visible_append c d)
    where
      tested : (b : Bool) (xs ys : List (Labelled L)) {zs : List (Labelled L)} → zs ≡ xs ++ ys
          → cond b (v ∷ zs) zs ≡ cond b (v ∷ xs) xs ++ ys
      tested true xs ys e = ap (λ r. v ∷ r) e
      tested false xs ys e = e

  pub visible_begins : {c d : List (Labelled L)} → Begins ◌≡◌ c d → Begins ◌≡◌ (visible kind o c) (visible kind o d)
  visible_begins ends = ends
  visible_begins (goes_on {a} {b} {xs} {ys} e h) =
      subst (λ w. Begins ◌≡◌ (visible kind o (a ∷ xs)) (visible kind o (w ∷ ys))) e
      (tested (kind.below a.label o) (visible_begins h))
    where
      tested : (b : Bool) {c d : List (Labelled L)} → Begins ◌≡◌ c d → Begins ◌≡◌ (cond b (a ∷ c) c) (cond b (a ∷ d) d)
      tested true k = goes_on refl k
      tested false k = k

  visible_hidden : (v : Labelled L) → Hidden kind o v.label → visible kind o (v ∷ []) ≡ []
  visible_hidden v h = ap (λ (b : Bool). cond b (v ∷ []) []) h

  -- a hidden command more looks the same
  pub shown_hidden : (c : List (Labelled L)) (v : Labelled L) → Hidden kind o v.label → Shown c (c ++ v ∷ [])
  shown_hidden c v h =
      sym
      (visible_append c (v ∷ []) ∙ ap (λ r. visible kind o c ++ r) (visible_hidden v h)
      ∙ append-nil (visible kind o c))

  -- and so do alike commands more
  pub shown_alike : (c d : List (Labelled L)) {v w : Labelled L} → Shown c d → Alike kind o v w
      → Shown (c ++ v ∷ []) (d ++ w ∷ [])
  shown_alike c d {v} {w} e a =
      visible_append c (v ∷ []) ∙ ap₂ (λ x y. x ++ y) e (last a) ∙ sym (visible_append d (w ∷ []))
    where
      last : Alike kind o v w → Shown (v ∷ []) (w ∷ [])
      last (inl f) = ap (λ x. visible kind o (x ∷ [])) f
      last (inr h) = visible_hidden v h.0 ∙ sym (visible_hidden w h.1)
