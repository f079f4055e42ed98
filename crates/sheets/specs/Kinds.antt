-- Kinds of label, and the words that name them.
use Rattle.std.specs.Prelude.{◌≡◌, ◌≢◌, ℕ, List, [], ◌∷◌, ◌++◌, codes, Result, Ok, Err}
use Rattle.std.specs.List.{Contains}
use Rattle.std.specs.Str.Lines.{lines}
use Rattle.text.specs.Words.{words, uncommented}
use Rattle.sheets.specs.declared.kind.Kind.{Kind}
use Rattle.sheets.specs.declared.kind.Kind.TheVariants.{One, Pair}
use Rattle.sheets.specs.declared.kind.KindName.{KindName}
use Rattle.sheets.specs.declared.kind.KindName.TheVariants.{Levels, Growers}

-- the word that names a simple kind
abbrev pub kind_name : KindName → List ℕ
kind_name Levels = codes "levels"
kind_name Growers = codes "growers"

-- which kind's name the word is, or that it is none's
abbrev pub KindRead : {E : Type 0} → List ℕ → Result KindName E → Type 0
KindRead word (Ok kind) = word ≡ kind_name kind
KindRead word (Err e) = (kind : KindName) → word ≢ kind_name kind

-- a pair is written by the names of both kinds
abbrev pub kind_words : Kind → List (List ℕ)
kind_words (One kind) = kind_name kind ∷ []
kind_words (Pair left right) = kind_name left ∷ kind_name right ∷ []

-- the words of a kind are taken, if the answer is not an error
abbrev pub ReadsKind : {E : Type 0} → List (List ℕ) → Result Kind E → List (List ℕ) → Type 0
ReadsKind before (Ok kind) after = before ≡ kind_words kind ++ after
ReadsKind before (Err e) after = Unit {0}

-- a line of the text gives the kind
abbrev pub HasKind : List ℕ → Kind → Type 0
HasKind text kind =
    (line : List ℕ) × Contains (lines text) line
    × (words (uncommented line) ≡ codes "labels" ∷ kind_words kind)
