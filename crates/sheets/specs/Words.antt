-- Taking a line's words one by one.
use Rattle.std.specs.Prelude.{◌≡◌, ℕ, List, [], ◌∷◌, Option, Some, None, Result, Ok, Err}
use Rattle.std.specs.Borrow.{Bor}

-- the next word, if there is one, and the words behind it
abbrev pub TakesWord : List (List ℕ) → Option (Bor (List ℕ)) → List (List ℕ) → Type 0
TakesWord before None after = (before ≡ []) × (after ≡ [])
TakesWord before (Some word) after = before ≡ word.now ∷ after

-- if the answer is no error, one word is taken, and of it and the answer P holds
abbrev pub ReadsWith : {X E : Type 0} → (List ℕ → X → Type 0) → List (List ℕ) → Result X E
    → List (List ℕ) → Type 0
ReadsWith P before (Ok x) after = (word : List ℕ) × (before ≡ word ∷ after) × P word x
ReadsWith P before (Err e) after = Unit {0}
