-- The sources of a pair: those of the left kind, and then those of the right one.
use Rattle.std.specs.Prelude.{ℕ, ◌+◌, ◌-◌, ◌^◌, min, nat_lt, Bool, cond}
use Rattle.std.specs.Prelude.{List, ◌++◌, Some, Option, codes}
use Rattle.std.specs.Option.{option_map}
use Rattle.std.specs.Fmt.{◌++?◌}
use Rattle.labels.specs.Kind.{Kind}
use Rattle.labels.specs.Pair.{pair}
use Rattle.labels.specs.declared.pair.Pair.{Pair}
use Rattle.readings.specs.Readings.{admitted}
use Rattle.readings.specs.declared.pair.BothParts.{BothParts}
use Rattle.readings.specs.declared.pair.OnePart.{OnePart}
use Rattle.readings.specs.declared.pair.OnePart.TheVariants.{Left, Right}

-- the count of both, as far as a program can count
abbrev pub both_counts : ℕ → ℕ → ℕ
both_counts left right = min (left + right) (2 ^ 64 - 1)

-- what the left kind gives for its sources, of which there are so many, and then the right kind
abbrev pub by_parts : {X : Type 0} → ℕ → (ℕ → X) → (ℕ → X) → ℕ → X
by_parts count left right k = cond (nat_lt k count) (left k) (right (k - count))

module _ {A B : Type 0} (left_kind : Kind A) (right_kind : Kind B) (count : ℕ) where
  -- a source's label in its own part, and bottom in the other
  abbrev pub part_label : (ℕ → Option A) → (ℕ → Option B) → ℕ → Option (Pair A B)
  part_label left right =
      by_parts count
      (λ k. option_map (λ a. pair a right_kind.bottom) (left k))
      (λ k. option_map (λ b. pair left_kind.bottom b) (right k))

  -- each part admits its own sources
  abbrev pub part_admitted : (ℕ → Option A) → (ℕ → Option B) → Pair A B → ℕ → Bool
  part_admitted left right x =
      by_parts count
      (λ k. admitted left_kind (left k) x.left)
      (λ k. admitted right_kind (right k) x.right)

module _ {A B : Type 0} where
  -- the source occurs in its own part
  abbrev pub part_names : ℕ → (A → ℕ → Bool) → (B → ℕ → Bool) → Pair A B → ℕ → Bool
  part_names count left right x = by_parts count (left x.left) (right x.right)

  -- what both parts admit, in words
  abbrev pub both_words : (A → List ℕ) → (B → List ℕ) → Pair A B → List ℕ
  both_words left right x = left x.left ++ (codes ", " ++ right x.right)

  -- what both parts show, if that is known
  abbrev pub both_output : (A → Option (List ℕ)) → (B → Option (List ℕ)) → BothParts A B
      → Option (List ℕ)
  both_output left right x = left x.left ++? (Some (codes ", ") ++? right x.right)

  -- what the one part shows, if that is known
  abbrev pub part_output : (A → Option (List ℕ)) → (B → Option (List ℕ)) → OnePart A B
      → Option (List ℕ)
  part_output left right (Left source) = Some (codes "left ") ++? left source
  part_output left right (Right source) = Some (codes "right ") ++? right source

-- a source of one part, in words
abbrev pub one_part : ℕ → (ℕ → List ℕ) → (ℕ → List ℕ) → ℕ → List ℕ
one_part count left right =
    by_parts count (λ k. codes "left " ++ left k) (λ k. codes "right " ++ right k)
