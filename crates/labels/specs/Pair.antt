-- Pairs of labels of two kinds, compared and joined part by part.
use Rattle.std.specs.Prelude.{ℕ, ◌&&◌, List, ◌++◌}
use Rattle.labels.specs.Kind.{Kind}
use Rattle.labels.specs.declared.pair.Pair.{Pair}

-- the pair of a and b
abbrev pub pair : {A B : Type 0} → A → B → Pair A B
pair a b = record { left = a; right = b }

-- pairs as a kind of label
abbrev pub pairs : {A B : Type 0} → Kind A → Kind B → Kind (Pair A B)
pairs k l = record {
  below = λ x y. k.below x.left y.left && l.below x.right y.right;
  bottom = pair k.bottom l.bottom;
  join = λ x y. pair (k.join x.left y.left) (l.join x.right y.right);
}

-- the left text, then the right
abbrev pub pair_text : {A B : Type 0} → (A → List ℕ) → (B → List ℕ) → Pair A B → List ℕ
pair_text left right x = left x.left ++ right x.right
