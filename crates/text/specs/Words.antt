-- Lines: what stands before a comment, and the words.
use Rattle.std.specs.Prelude.{◌≡◌, ◌≢◌, ℕ, ◌==◌, Bool, true, false, ◌||◌, cond, not}
use Rattle.std.specs.Prelude.{List, [], ◌∷◌, Some, None, Option}
use Rattle.std.specs.Borrow.{Bor}

-- the line up to its comment, which begins with the first `#`
abbrev pub uncommented : List ℕ → List ℕ
uncommented [] = []
uncommented (b ∷ bs) = cond (b == 35) [] (b ∷ uncommented bs)

-- a space, a tab or a carriage return
abbrev pub blank : ℕ → Bool
blank b = b == 32 || (b == 9 || b == 13)

-- a byte of a word
abbrev pub dark : ℕ → Bool
dark b = not (blank b)

-- the bytes up to the first blank
abbrev pub word : List ℕ → List ℕ
word [] = []
word (b ∷ bs) = cond (blank b) [] (b ∷ word bs)

-- the words of bs; with `on`, bs goes on a word already begun, which is left out
abbrev pub words_in : Bool → List ℕ → List (List ℕ)
words_in on [] = []
words_in on (b ∷ bs) =
    cond (blank b) (words_in false bs)
    (cond on (words_in true bs) (word (b ∷ bs) ∷ words_in true bs))

-- the words of a line
abbrev pub words : List ℕ → List (List ℕ)
words = words_in false

-- the line without the blanks at its front
abbrev pub trimmed : List ℕ → List ℕ
trimmed [] = []
trimmed (b ∷ bs) = cond (blank b) (trimmed bs) (b ∷ bs)

-- the bytes from the first blank on
abbrev pub behind : List ℕ → List ℕ
behind [] = []
behind (b ∷ bs) = cond (blank b) (b ∷ bs) (behind bs)

-- the first word, if any, and what comes behind it
abbrev pub NextWord : List ℕ → Option (Bor (List ℕ) × Bor (List ℕ)) → Type 0
NextWord line None = words line ≡ []
NextWord line (Some r) = (words line ≡ r.0.now ∷ words r.1.now) × (r.1.now ≡ behind (trimmed line))

-- which x has the word as its text, if any
abbrev pub Names : {X : Type 0} → (X → List ℕ) → List ℕ → Option X → Type 0
Names {X} text word None = (x : X) → word ≢ text x
Names text word (Some x) = word ≡ text x
