-- The sources are as many as each kind says: the proofs of that law.
use Rattle.std.specs.Prelude.{◌≡◌, ℕ, zero, suc, ◌-◌, nat_lt, true, false, cond, refl}
use Rattle.std.specs.Prelude.{List, [], ◌∷◌, length, Some, None, Option, is_some}
use Rattle.std.specs.List.{slice_get}
use Rattle.std.specs.Option.{option_map}
use Rattle.std.proofs.Common.{◌∙◌, ⊎_elim, arith}
use Rattle.std.proofs.lemmas.Bool.{cases_Bool}
use Rattle.std.proofs.lemmas.Bool.Decides.{nat_tests}
use Rattle.labels.specs.Kind.{Kind}
use Rattle.labels.specs.declared.level.Level.TheVariants.{L0, L1, L2, L3, L4, L5, L6, L7}
use Rattle.readings.specs.Readings.{Counts}
use Rattle.readings.specs.Levels.{level_at}
use Rattle.readings.specs.Growers.{alone, grower_alone}
use Rattle.readings.specs.Pairs.{both_counts, part_label}

-- there is an element below the length
is_some-slice_get : {X : Type 0} (xs : List X) (k : ℕ)
    → is_some (slice_get xs k) ≡ nat_lt k (length xs)
is_some-slice_get [] k = grind (arith, nat_tests)
is_some-slice_get (x ∷ xs) zero = grind (arith, nat_tests)
is_some-slice_get (x ∷ xs) (suc k) = is_some-slice_get xs k ∙ grind (arith, nat_tests)

-- a function of what is there leaves it there
is_some-option_map : {X Y : Type 0} (f : X → Y) (o : Option X)
    → is_some (option_map f o) ≡ is_some o
is_some-option_map f None = refl
is_some-option_map f (Some x) = refl

pub levels_counted : Counts 8 level_at
levels_counted k small = is_some-slice_get (L0 ∷ L1 ∷ L2 ∷ L3 ∷ L4 ∷ L5 ∷ L6 ∷ L7 ∷ []) k

pub growers_counted : Counts 16 grower_alone
growers_counted k small =
    elim (nat_lt k 16) as (λ t. is_some (cond t (Some (alone k)) None) ≡ t) [
      | true ↦ refl
      | false ↦ refl
    ]

module _ {A B : Type 0} (left_kind : Kind A) (right_kind : Kind B)
    (m n : ℕ) (left : ℕ → Option A) (right : ℕ → Option B) where
  pub parts_counted : Counts m left → Counts n right
      → Counts (both_counts m n) (part_label left_kind right_kind m left right)
  parts_counted p q k small =
      let in_left : nat_lt k m ≡ true → nat_lt k m ≡ nat_lt k (both_counts m n) =
      λ t. grind (arith, nat_tests) in
      let in_right : nat_lt k m ≡ false → nat_lt (k - m) n ≡ nat_lt k (both_counts m n) =
      λ f. grind (arith, nat_tests) in
      ⊎_elim
      (λ t. rw t (is_some-option_map _ (left k) ∙ p k small ∙ in_left t))
      (λ f.
      rw f (is_some-option_map _ (right (k - m)) ∙ q (k - m) (omega arith) ∙ in_right f))
      (cases_Bool (nat_lt k m))
