-- A set admits a grower alone if and only if he is in it.
use Rattle.std.proofs.Common.{◌≡◌, ℕ, ◌/◌, ◌%◌, ◌^◌, ◌<◌, ◌==◌}
use Rattle.std.proofs.Common.{refl, sym, ap, ◌∙◌, subst, ⊎_elim, arith}
use Rattle.std.specs.Prelude.{nat_lt}
use Rattle.std.specs.Int.{bit_at}
use Rattle.std.proofs.Math.Nat.{mod-eq_of_lt}
use Rattle.std.proofs.Math.Pow.{pow-lt}
use Rattle.std.proofs.lemmas.Bool.{cases_Bool, eqb-true, eqb-false, ltb-true}
use Rattle.std.proofs.lemmas.Bool.Decides.{same_from_decides, Decides-eqb}
use Rattle.std.proofs.lemmas.Nat.Bits.{bit_at-pow_same, bit_at-pow_other}
use Rattle.labels.specs.Growers.{grower_sets, In, IsSubset}
use Rattle.labels.specs.declared.growers.mask.Growers.{Growers}
use Rattle.labels.proofs.Members.{inclusion}
use Rattle.readings.specs.Readings.{admitted}
use Rattle.readings.specs.Growers.{alone, grower_alone, grower_names}

-- the bits of one grower's set
bits : (k g : ℕ) → k < 16 → bit_at (alone k).mask g ≡ bit_at (2 ^ k) g
bits k g h = ap (λ m. bit_at m g) (mod-eq_of_lt (pow-lt {i = k} {j = 16} h))

-- he is in it,
in_own : (k : ℕ) → k < 16 → In k (alone k)
in_own k h = bits k k h ∙ bit_at-pow_same k

-- and nobody else is
only_own : (k g : ℕ) → k < 16 → In g (alone k) → g ≡ k
only_own k g h here =
    ⊎_elim
    (eqb-true g k)
    (λ f. absurd (omega (arith, here, bits k g h, bit_at-pow_other k g (eqb-false g k f))))
    (cases_Bool (g == k))

-- it is within every set that he is in
within : (k : ℕ) (a : Growers) → k < 16 → In k a → IsSubset (alone k) a
within k a h here g there = subst (λ n. In n a) (sym (only_own k g h there)) here

-- below sixteen, the bit is the order
by_bit : (k : ℕ) (a : Growers) → k < 16
    → (a.mask / 2 ^ k % 2 == 1) ≡ grower_sets.below (alone k) a
by_bit k a h =
    let (to, from) = inclusion (alone k) a in
    same_from_decides _ _
    (Decides-eqb (a.mask / 2 ^ k % 2) 1)
    (λ t. to t k (in_own k h), λ here. from (within k a h here))

-- there is no grower from sixteen on
pub alone_admitted : (k : ℕ) (a : Growers)
    → grower_names a k ≡ admitted grower_sets (grower_alone k) a
alone_admitted k a =
    ⊎_elim (λ t. rw t (by_bit k a (ltb-true k 16 t))) (λ f. rw f refl) (cases_Bool (nat_lt k 16))
