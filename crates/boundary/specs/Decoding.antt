-- What reading a value from numbers comes to.
use Rattle.std.specs.Prelude.{MatchOption, MatchResult, Option, Result}
use Rattle.boundary.specs.declared.faults.Fault.{Fault}
use Rattle.boundary.specs.declared.faults.Fault.TheVariants.{NoCode, OutOfMemory, Unmade}

-- a value that the numbers code, or that they code none
abbrev pub Decodes : {A : Type 0} → Option A → (A → Type 0) → Type 0
Decodes {A} r Codes = MatchOption r ((x : A) → Codes x → ⊥) Codes

-- Why nothing was read: nothing is coded by the numbers, or there was no memory for it.
abbrev pub Unread : Type 0 → Fault → Type 0
Unread NothingCoded NoCode = NothingCoded
Unread NothingCoded OutOfMemory = Unit {0}
Unread NothingCoded (Unmade why) = ⊥

-- a value that the numbers code, that they code none, or that there was no memory for it
abbrev pub DecodesOnHeap : {A : Type 0} → Result A Fault → (A → Type 0) → Type 0
DecodesOnHeap {A} r Codes = MatchResult r Codes (Unread ((x : A) → Codes x → ⊥))
