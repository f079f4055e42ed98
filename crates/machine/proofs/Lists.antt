-- Lists related element by element, and beginnings of lists.
use Rattle.std.proofs.Common.{◌≡◌, ℕ, zero, suc, List, [], ◌∷◌, ◌++◌, length, set}
use Rattle.std.proofs.Common.{ℤ, pos, negsuc, refl, ap, ◌∙◌, subst, inl, inr}
use Rattle.machine.specs.Lists.{Each, none, more, Begins, ends, goes_on, OneBegins}
use Rattle.machine.specs.Steps.{set_place}

module _ {A : Type 0} {R : A → A → Type 0} where
  pub each_refl : ((a : A) → R a a) → (xs : List A) → Each R xs xs
  each_refl r [] = none
  each_refl r (x ∷ xs) = more (r x) (each_refl r xs)

  pub each_sym : ((a b : A) → R a b → R b a) → {xs ys : List A} → Each R xs ys → Each R ys xs
  each_sym s none = none
  each_sym s (more h t) = more (s _ _ h) (each_sym s t)

  pub each_trans : ((a b c : A) → R a b → R b c → R a c) → {xs ys zs : List A} → Each R xs ys
      → Each R ys zs → Each R xs zs
  each_trans s none none = none
  each_trans s (more h t) (more k u) = more (s _ _ _ h k) (each_trans s t u)

  pub each_length : {xs ys : List A} → Each R xs ys → length xs ≡ length ys
  each_length none = refl
  each_length (more h t) = ap suc (each_length t)

  pub each_set : {xs ys : List A} {a b : A} (i : ℕ) → Each R xs ys → R a b → Each R (set xs i a) (set ys i b)
  each_set i none h = none
  each_set zero (more r t) h = more h t
  each_set (suc i) (more r t) h = more r (each_set i t h)

  pub each_set_place : {xs ys : List A} {a b : A} (z : ℤ) {z' : ℤ} → z ≡ z' → Each R xs ys → R a b
      → Each R (set_place xs z a) (set_place ys z' b)
  each_set_place {xs} {ys} {a} {b} z e t h =
      subst (λ (z' : ℤ). Each R (set_place xs z a) (set_place ys z' b)) e (place z)
    where
      place : (z : ℤ) → Each R (set_place xs z a) (set_place ys z b)
      place (pos i) = each_set i t h
      place (negsuc i) = t

-- beginnings
module _ {A : Type 0} where
  pub begins_refl : (xs : List A) → Begins ◌≡◌ xs xs
  begins_refl [] = ends
  begins_refl (x ∷ xs) = goes_on refl (begins_refl xs)

  pub begins_equal : {xs ys : List A} → xs ≡ ys → Begins ◌≡◌ xs ys
  begins_equal {xs} e = subst (Begins ◌≡◌ xs) e (begins_refl xs)

  pub begins_append : (xs ys : List A) → Begins ◌≡◌ xs (xs ++ ys)
  begins_append [] ys = ends
  begins_append (x ∷ xs) ys = goes_on refl (begins_append xs ys)

  pub begins_trans : {xs ys zs : List A} → Begins ◌≡◌ xs ys → Begins ◌≡◌ ys zs → Begins ◌≡◌ xs zs
  begins_trans ends k = ends
  begins_trans (goes_on e h) (goes_on f k) = goes_on (e ∙ f) (begins_trans h k)

  pub one_begins_sym : {R : A → A → Type 0} {xs ys : List A} → OneBegins R xs ys → OneBegins R ys xs
  one_begins_sym (inl h) = inr h
  one_begins_sym (inr h) = inl h

  -- the first elements are related, and the rests begin one another
  pub one_begins_tail : {R : A → A → Type 0} {x y : A} {xs ys : List A} → ((a b : A) → R a b → R b a)
      → OneBegins R (x ∷ xs) (y ∷ ys) → R x y × OneBegins R xs ys
  one_begins_tail s (inl (goes_on h t)) = (h, inl t)
  one_begins_tail s (inr (goes_on h t)) = (s _ _ h, inr t)
