-- Levels as sources of readings, and in words.
use Rattle.std.specs.Prelude.{ℕ, ◌==◌, Bool, List, [], ◌∷◌, ◌++◌, Option, codes}
use Rattle.std.specs.List.{slice_get}
use Rattle.std.specs.Fmt.{decimal}
use Rattle.labels.specs.Level.{rank, level_text}
use Rattle.labels.specs.declared.level.Level.{Level}
use Rattle.labels.specs.declared.level.Level.TheVariants.{L0, L1, L2, L3, L4, L5, L6, L7}

-- the level with a number, if there is one
abbrev pub level_at : ℕ → Option Level
level_at k = slice_get (L0 ∷ L1 ∷ L2 ∷ L3 ∷ L4 ∷ L5 ∷ L6 ∷ L7 ∷ []) k

-- the source is the level itself
abbrev pub level_names : Level → ℕ → Bool
level_names label k = rank label == k

-- what a level admits, in words
abbrev pub level_words : Level → List ℕ
level_words label = codes "level " ++ (level_text label ++ codes " and below")

-- a level in words
abbrev pub one_level : ℕ → List ℕ
one_level k = codes "level " ++ decimal k
