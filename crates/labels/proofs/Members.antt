-- What masks say of their members, bit by bit.
use Rattle.std.proofs.Common.{◌≡◌, ℕ, true, eqb, ◌⊎◌, ap, ◌∙◌, inl, inr, ⊎_elim, arith}
use Rattle.std.specs.Int.{bit_at}
use Rattle.std.specs.Prelude.{bit_or}
use Rattle.std.proofs.lemmas.Nat.Bits.{bit_at_or, bit_at-lt, same_from_bits}
use Rattle.std.proofs.lemmas.Bool.{cases_Bool, eqb-true, eqb-false, eq-eqb}
use Rattle.labels.specs.Growers.{grower_sets, In, IsSubset}
use Rattle.labels.specs.declared.growers.mask.Growers.{Growers}

-- with every bit of a in b, a adds none to b
absorbed : (a b : ℕ) → ((g : ℕ) → bit_at a g ≡ 1 → bit_at b g ≡ 1) → bit_or a b ≡ b
absorbed a b within =
    same_from_bits _ _ (λ g. ⊎_elim
    (λ e. omega (arith, bit_at_or a b g, bit_at-lt a g, within g (eqb-true (bit_at a g) 1 e)))
    (λ e. omega (arith, bit_at_or a b g, bit_at-lt a g, eqb-false (bit_at a g) 1 e))
    (cases_Bool (eqb (bit_at a g) 1)))

-- the test of the order is inclusion
pub inclusion : (a b : Growers)
    → (grower_sets.below a b ≡ true → IsSubset a b) × (IsSubset a b → grower_sets.below a b ≡ true)
inclusion a b = (
  λ e g here.
      let same = ap (λ n. bit_at n g) (eqb-true (bit_or a.mask b.mask) b.mask e) in
      omega (arith, same, bit_at_or a.mask b.mask g, bit_at-lt b.mask g),
  λ within. eq-eqb _ _ (absorbed a.mask b.mask within),
)

-- a bit of the masks' `|` is in either
pub union_has : (a b : Growers) (m : ℕ) → m ≡ bit_or a.mask b.mask → (g : ℕ)
    → (bit_at m g ≡ 1 → In g a ⊎ In g b) × (In g a → bit_at m g ≡ 1) × (In g b → bit_at m g ≡ 1)
union_has a b m is g =
    let whole = ap (λ n. bit_at n g) is ∙ bit_at_or a.mask b.mask g in (
      λ e.
          ⊎_elim
          (λ t. inl (eqb-true (bit_at a.mask g) 1 t))
          (λ f. inr (omega (arith, whole, eqb-false (bit_at a.mask g) 1 f, bit_at-lt a.mask g)))
          (cases_Bool (eqb (bit_at a.mask g) 1)),
      λ e. omega (arith, whole, bit_at-lt b.mask g),
      λ e. omega (arith, whole, bit_at-lt a.mask g),
    )
