-- Texts of labels, and what is read off the front of some bytes.
use Rattle.std.specs.Prelude.{◌≡◌, ℕ, List, ◌++◌, Some, None, Option}
use Rattle.std.specs.Borrow.{Bor}

-- no label's text begins another's: bytes begin with the text of one label at most
abbrev pub PrefixFree : {L : Type 0} → (L → List ℕ) → Type 0
PrefixFree {L} text = (a b : L) (s t : List ℕ) → text a ++ s ≡ text b ++ t → a ≡ b

-- the bytes begin with the text of a
abbrev pub BeginsWith : {L : Type 0} → (L → List ℕ) → List ℕ → L → Type 0
BeginsWith text bytes a = (rest : List ℕ) × (bytes ≡ text a ++ rest)

-- the label with whose text the bytes begin and the bytes behind it, or that there is no such label
abbrev pub Reads : {L : Type 0} → (L → List ℕ) → List ℕ → Option (L × Bor (List ℕ)) → Type 0
Reads {L} text bytes None = (a : L) → BeginsWith text bytes a → ⊥
Reads text bytes (Some r) = bytes ≡ text r.0 ++ r.1.now

-- what is shown of a label is its text
abbrev pub Shows : {L : Type 0} → (L → List ℕ) → (L → Option (List ℕ)) → Type 0
Shows {L} text output = (a : L) → output a ≡ Some (text a)
