-- Kinds of label by number, and what is said of the labels of a kind.
use Rattle.std.specs.Prelude.{ℕ}
use Rattle.labels.specs.Growers.{grower_sets}
use Rattle.labels.specs.Kind.{Kind}
use Rattle.labels.specs.Level.{levels}
use Rattle.labels.specs.Pair.{pairs}
use Rattle.labels.specs.declared.growers.mask.Growers.{Growers as GrowerSet}
use Rattle.labels.specs.declared.level.Level.{Level}
use Rattle.labels.specs.declared.pair.Pair.{Pair as PairOf}
use Rattle.boundary.specs.Labels.{growers_code, level_code, pair_code}
use Rattle.boundary.specs.declared.kinds.KindCode.{KindCode}
use Rattle.boundary.specs.declared.kinds.KindCode.TheVariants.{One, Pair}
use Rattle.boundary.specs.declared.kinds.KindName.{KindName}
use Rattle.boundary.specs.declared.kinds.KindName.TheVariants.{Levels, Growers}

-- The numbers by which programs outside name the kinds.
abbrev pub kind_number : KindCode → ℕ
kind_number (One Levels) = 0
kind_number (One Growers) = 1
kind_number (Pair Levels Levels) = 2
kind_number (Pair Levels Growers) = 3
kind_number (Pair Growers Levels) = 4
kind_number (Pair Growers Growers) = 5

-- What is said of labels, by their numbers and their order.
abbrev pub OfLabels : Type 1
OfLabels = (L : Type 0) → (L → ℕ) → Kind L → Type 0

-- said of a simple kind's labels
abbrev pub OfName : KindName → OfLabels → Type 0
OfName Levels Says = Says Level level_code levels
OfName Growers Says = Says GrowerSet growers_code grower_sets

-- said of pairs, the left labels of which are these
abbrev pub OfPairsFrom : (A : Type 0) → (A → ℕ) → Kind A → OfLabels → OfLabels
OfPairsFrom A left kind Says B right kind' =
    Says (PairOf A B) (pair_code left right) (pairs kind kind')

-- said of pairs, the right labels of which are of this simple kind
abbrev pub OfPairs : KindName → OfLabels → OfLabels
OfPairs right Says A left kind = OfName right (OfPairsFrom A left kind Says)

-- said of any kind's labels
abbrev pub OfKind : KindCode → OfLabels → Type 0
OfKind (One name) Says = OfName name Says
OfKind (Pair left right) Says = OfName left (OfPairs right Says)
