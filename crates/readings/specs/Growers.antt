-- Growers as sources of readings, and sets of them in words.
use Rattle.std.specs.Prelude.{ℕ, zero, suc, ◌/◌, ◌%◌, ◌^◌, ◌==◌, nat_lt, count_ones}
use Rattle.std.specs.Prelude.{◌&&◌, Bool, cond, List, [], ◌++◌, Some, None, Option, codes}
use Rattle.std.specs.Fmt.{decimal}
use Rattle.std.proofs.Common.{lit<}
use Rattle.std.proofs.Math.Nat.{mod-lt}
use Rattle.labels.specs.declared.growers.mask.Growers.{Growers}

-- the set of one grower: by its bit alone
abbrev pub alone : ℕ → Growers
alone k = record { mask = 2 ^ k % 65536; fits = mod-lt (2 ^ k) (lit< tt) }

-- the label of a grower's readings, if there is the grower
abbrev pub grower_alone : ℕ → Option Growers
grower_alone k = cond (nat_lt k 16) (Some (alone k)) None

-- the source is a grower in the set
abbrev pub grower_names : Growers → ℕ → Bool
grower_names label k = nat_lt k 16 && (label.mask / 2 ^ k % 2 == 1)

-- the numbers of the growers below n that are in the set, each behind a space
unfoldable pub named_below : Growers → ℕ → List ℕ
named_below a zero = []
named_below a (suc n) =
    named_below a n ++ cond (a.mask / 2 ^ n % 2 == 1) (codes " " ++ decimal n) []

-- growers in words, where there are so many and these are their numbers
abbrev pub counted_text : ℕ → List ℕ → List ℕ
counted_text zero named = codes "no grower"
counted_text (suc zero) named = codes "grower" ++ named
counted_text (suc (suc n)) named = codes "growers" ++ named

-- a set of growers in words
abbrev pub grower_words : Growers → List ℕ
grower_words a = counted_text (count_ones a.mask) (named_below a 16)

-- a grower in words
abbrev pub one_grower : ℕ → List ℕ
one_grower k = codes "grower " ++ decimal k
