-- Sources of readings, by their numbers and labels, and which of them a label admits.
use Rattle.std.specs.Prelude.{◌≡◌, ℕ, ◌-◌, ◌^◌, ◌<◌, nat_lt, Bool, false}
use Rattle.std.specs.Prelude.{Some, None, Option, is_some}
use Rattle.labels.specs.Kind.{Kind}

-- a label admits a source if there is one and what has the source's label may flow to the label
abbrev pub admitted : {L : Type 0} → Kind L → Option L → L → Bool
admitted kind None label = false
admitted kind (Some own) label = kind.below own label

-- the numbers of sources are those below the count, as far as a program can count
abbrev pub Counts : {L : Type 0} → ℕ → (ℕ → Option L) → Type 0
Counts sources source_label =
    (k : ℕ) → k < 2 ^ 64 - 1 → is_some (source_label k) ≡ nat_lt k sources
