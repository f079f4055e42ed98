-- The numbers that labels are coded by.
use Rattle.std.specs.Prelude.{ℕ, ◌+◌, ◌*◌}
use Rattle.labels.specs.declared.level.Level.{Level}
use Rattle.labels.specs.Level.{rank}
use Rattle.labels.specs.declared.growers.mask.Growers.{Growers}
use Rattle.labels.specs.declared.pair.Pair.{Pair}

-- the number of the level
abbrev pub level_code : Level → ℕ
level_code a = rank a

-- the mask
abbrev pub growers_code : Growers → ℕ
growers_code a = a.mask

-- the left label's number, and the right one's in the sixteen lower bits
abbrev pub pair_code : {A B : Type 0} → (A → ℕ) → (B → ℕ) → Pair A B → ℕ
pair_code left right a = left a.left * 65536 + right a.right
