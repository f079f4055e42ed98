-- Where two lists first differ.
use Rattle.std.specs.Prelude.{◌≡◌, ℕ, suc, Bool, List, [], ◌∷◌, take, filter, Some, None, Option}
use Rattle.std.specs.Borrow.{Bor}

-- Where two lists cease to be related so: nowhere, or at the first place with which they no longer are.
abbrev pub Breaks : {A : Type 0} → (List A → List A → Type 0) → List A → List A → Option ℕ → Type 0
Breaks Related xs ys None = Related xs ys
Breaks Related xs ys (Some n) = Related (take n xs) (take n ys) × (Related (take (suc n) xs) (take (suc n) ys) → ⊥)

-- The first element of a list that passes a test, and the list behind it.
abbrev pub NextHad : {A : Type 0} → (A → Bool) → List A → Option (Bor A × Bor (List A)) → Type 0
NextHad has xs None = filter has xs ≡ []
NextHad has xs (Some found) = filter has xs ≡ found.0.now ∷ filter has found.1.now
