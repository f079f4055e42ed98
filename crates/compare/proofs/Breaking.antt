-- Where two lists first differ, found from their beginnings on.
use Rattle.std.proofs.Common.{◌≡◌, ℕ, suc, ◌+◌, List, [], ◌∷◌, Some, None, Option, refl, inl, inr, arith, ap}
use Rattle.machine.specs.Lists.{Each, none, more, ends, goes_on, OneBegins}
use Rattle.machine.proofs.Lists.{one_begins_tail}
use Rattle.compare.specs.Differences.{Breaks}

-- the place with one more element before
abbrev pub later : Option ℕ → Option ℕ
later None = None
later (Some n) = Some (suc n)

-- the place with k more elements before
abbrev pub shifted : ℕ → Option ℕ → Option ℕ
shifted k None = None
shifted k (Some n) = Some (n + k)

pub shifted_zero : (p : Option ℕ) → shifted 0 p ≡ p
shifted_zero None = refl
shifted_zero (Some n) = ap Some (omega arith)

pub shifted_first : (k : ℕ) → shifted k (Some 0) ≡ Some k
shifted_first k = ap Some (omega arith)

pub shifted_later : (k : ℕ) (p : Option ℕ) → shifted k (later p) ≡ shifted (k + 1) p
shifted_later k None = refl
shifted_later k (Some n) = ap Some (omega arith)

module _ {A : Type 0} (R : A → A → Type 0) where
  -- Lists of which one begins the other,
  pub none_before : (ys : List A) → Breaks (OneBegins R) [] ys None
  none_before ys = inl ends

  pub none_behind : (xs : List A) → Breaks (OneBegins R) xs [] None
  none_behind xs = inr ends

  module _ (turn : (x y : A) → R x y → R y x) (x y : A) where
    longer : {xs ys : List A} → R x y → OneBegins R xs ys → OneBegins R (x ∷ xs) (y ∷ ys)
    longer r (inl b) = inl (goes_on r b)
    longer r (inr b) = inr (goes_on (turn x y r) b)

    pub differ : (xs ys : List A) → (R x y → ⊥) → Breaks (OneBegins R) (x ∷ xs) (y ∷ ys) (Some 0)
    differ xs ys unalike = (inl ends, λ both. unalike (one_begins_tail turn both).0)

    pub go_on : (xs ys : List A) (p : Option ℕ) → R x y → Breaks (OneBegins R) xs ys p
        → Breaks (OneBegins R) (x ∷ xs) (y ∷ ys) (later p)
    go_on xs ys None r breaks = longer r breaks
    go_on xs ys (Some n) r breaks = (longer r breaks.0, λ both. breaks.1 (one_begins_tail turn both).1)

  -- and lists that are alike and equally long.
  uneven : (x : A) → Each R (x ∷ []) [] → ⊥
  uneven x each = elim each [ ]

  uneven_other : (y : A) → Each R [] (y ∷ []) → ⊥
  uneven_other y each = elim each [ ]

  pub second_ends : (x : A) (xs : List A) → Breaks (Each R) (x ∷ xs) [] (Some 0)
  second_ends x xs = (none, uneven x)

  pub first_ends : (y : A) (ys : List A) → Breaks (Each R) [] (y ∷ ys) (Some 0)
  first_ends y ys = (none, uneven_other y)

  parted : {x y : A} {xs ys : List A} → Each R (x ∷ xs) (y ∷ ys) → R x y × Each R xs ys
  parted (more r each) = (r, each)

  pub unlike : (x y : A) (xs ys : List A) → (R x y → ⊥) → Breaks (Each R) (x ∷ xs) (y ∷ ys) (Some 0)
  unlike x y xs ys unalike = (none, λ both. unalike (parted both).0)

  pub alike_on : (x y : A) (xs ys : List A) (p : Option ℕ) → R x y → Breaks (Each R) xs ys p
      → Breaks (Each R) (x ∷ xs) (y ∷ ys) (later p)
  alike_on x y xs ys None r each = more r each
  alike_on x y xs ys (Some n) r breaks = (more r breaks.0, λ both. breaks.1 (parted both).1)
