-- The eight levels: ordered as their numbers, joined to the larger.
use Rattle.std.specs.Prelude.{◌≡◌, ℕ, ◌+◌, Bool, cond, List, [], ◌∷◌, Ok, Err, Result, ◌≢◌, nat_le}
use Rattle.labels.specs.Kind.{Kind}
use Rattle.labels.specs.declared.level.Level.{Level}
use Rattle.labels.specs.declared.level.NotALevel.{NotALevel}
use Rattle.labels.specs.declared.level.Level.TheVariants.{L0, L1, L2, L3, L4, L5, L6, L7}

-- the number of a level
abbrev pub rank : Level → ℕ
rank L0 = 0
rank L1 = 1
rank L2 = 2
rank L3 = 3
rank L4 = 4
rank L5 = 5
rank L6 = 6
rank L7 = 7

-- whether a's number is at most b's
abbrev pub level_below : Level → Level → Bool
level_below a b = nat_le (rank a) (rank b)

-- levels as a kind of label
abbrev pub levels : Kind Level
levels = record { below = level_below; bottom = L0; join = λ a b. cond (level_below a b) b a }

-- a level's digit, as a byte
abbrev pub digit : Level → ℕ
digit a = 48 + rank a

-- which level's digit a byte is, or that it is none's
abbrev pub LevelDigit : ℕ → Result Level NotALevel → Type 0
LevelDigit byte (Ok a) = byte ≡ digit a
LevelDigit byte (Err e) = ((a : Level) → byte ≢ digit a) × (e.0 ≡ byte)

-- a level's text: its digit
abbrev pub level_text : Level → List ℕ
level_text a = digit a ∷ []
