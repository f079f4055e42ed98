-- Numbers and labels as a sheet writes them.
use Rattle.std.specs.Prelude.{◌≡◌, ◌≢◌, ℕ, ◌≤◌, ℤ, ◌≤ℤ◌, Bool, true, false, List, Result, Ok, Err}
use Rattle.std.specs.Prelude.{FitsSigned}
use Rattle.std.specs.Fmt.{decimal, signed_decimal}
use Rattle.std.specs.Int.{w32}
use Rattle.machine.specs.declared.parts.Labelled.{Labelled}
use Rattle.machine.specs.Texts.{number_text}

-- from `least` to `most`
abbrev pub Between : ℤ → ℤ → ℤ → Type 0
Between least most z = (least ≤ℤ z) × (z ≤ℤ most)

-- the word is read as n, which is up to `most`: if it is such a number's text, then n's
abbrev pub CountRead : ℕ → List ℕ → ℕ → Type 0
CountRead most word n = (n ≤ most) × ((m : ℕ) → m ≤ most → word ≡ decimal m → n ≡ m)

-- the word is read as a yes or no: 1 or 0
abbrev pub YesRead : List ℕ → Bool → Type 0
YesRead word answer = (word ≡ decimal 0 → answer ≡ false) × (word ≡ decimal 1 → answer ≡ true)

-- the word is read as z: if it is the text of a number of 32 bits, then of z
abbrev pub ValueRead : List ℕ → ℤ → Type 0
ValueRead word z = (y : ℤ) → FitsSigned w32 y → word ≡ signed_decimal y → z ≡ y

-- what reading a number of 32 bits gives if the word is the text of one
abbrev pub GivesValue : {E : Type 0} → List ℕ → Result ℤ E → Type 0
GivesValue word r = (y : ℤ) → FitsSigned w32 y → word ≡ signed_decimal y → r ≡ Ok y

module _ {L : Type 0} (text : L → List ℕ) where
  -- the word is read as v: if it is the text of a labelled number, then of v
  abbrev pub NumberRead : List ℕ → Labelled L → Type 0
  NumberRead word v = (u : Labelled L) → FitsSigned w32 u.value → word ≡ number_text text u → v ≡ u

  -- what reading a labelled number gives if the word is the text of one
  abbrev pub GivesNumber : {E : Type 0} → List ℕ → Result (Labelled L) E → Type 0
  GivesNumber word r =
      (u : Labelled L) → FitsSigned w32 u.value → word ≡ number_text text u → r ≡ Ok u

  -- the label of that text, or an error if it is no label's
  abbrev pub GivesLabel : {E : Type 0} → List ℕ → Result L E → Type 0
  GivesLabel word (Ok a) = word ≡ text a
  GivesLabel word (Err e) = (a : L) → word ≢ text a

  -- the word is the text of that label
  abbrev pub LabelRead : List ℕ → L → Type 0
  LabelRead word a = word ≡ text a
