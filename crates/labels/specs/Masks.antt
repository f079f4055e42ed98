-- Sets of growers are a lawful kind of label: the proofs, by their masks.
use Rattle.std.specs.Prelude.{◌≡◌, ℕ, ◌<◌, true, ◌==◌, bit_or, refl}
use Rattle.std.proofs.Common.{sym, ap, ◌∙◌, arith}
use mathlib.Core.HLevel.{is_prop→PathP}
use Rattle.std.proofs.Math.Bridge.{le_prop}
use Rattle.std.specs.Int.Bits.{or_self}
use Rattle.std.proofs.lemmas.Nat.{or_comm}
use Rattle.std.proofs.lemmas.Nat.Bits.{bit_at_or, same_from_bits}
use Rattle.std.proofs.lemmas.Bool.{eqb-true, eq-eqb}
use Rattle.labels.specs.Growers.{grower_sets}
use Rattle.labels.specs.Kind.{Lawful}
use Rattle.labels.specs.declared.growers.mask.Growers.{Growers}

-- a union does not depend on which two are united first
or_assoc : (a b c : ℕ) → bit_or (bit_or a b) c ≡ bit_or a (bit_or b c)
or_assoc a b c =
    same_from_bits _ _ (λ g.
    omega (
      arith,
      bit_at_or (bit_or a b) c g,
      bit_at_or a b g,
      bit_at_or a (bit_or b c) g,
      bit_at_or b c g,
    ))

-- two sets with one mask are the same
pub same_mask : (a b : Growers) → a.mask ≡ b.mask → a ≡ b
same_mask a b p =
    λ i. record {
      mask = p i;
      fits = is_prop→PathP (λ j. p j < 65536) (λ j. le_prop) a.fits b.fits i;
    }

-- the test that a adds none to b, read as an equation,
into : (a b : ℕ) → (bit_or a b == b) ≡ true → bit_or a b ≡ b
into a b = eqb-true (bit_or a b) b

-- and passed by one
from : (a b : ℕ) → bit_or a b ≡ b → (bit_or a b == b) ≡ true
from a b = eq-eqb (bit_or a b) b

pub grower_laws : Lawful grower_sets
grower_laws = record {
  reflexive = λ a. from a.mask a.mask (or_self a.mask);
  transitive = λ a b c p q.
      from a.mask c.mask
      (ap (bit_or a.mask) (sym (into b.mask c.mask q))
      ∙ sym (or_assoc a.mask b.mask c.mask)
      ∙ ap (λ x. bit_or x c.mask) (into a.mask b.mask p)
      ∙ into b.mask c.mask q);
  antisymmetric = λ a b p q.
      same_mask a b (sym (into b.mask a.mask q) ∙ or_comm b.mask a.mask ∙ into a.mask b.mask p);
  least = λ a. from 0 a.mask refl;
  left = λ a b.
      from a.mask (bit_or a.mask b.mask)
      (sym (or_assoc a.mask a.mask b.mask) ∙ ap (λ x. bit_or x b.mask) (or_self a.mask));
  right = λ a b.
      from b.mask (bit_or a.mask b.mask)
      (or_comm b.mask (bit_or a.mask b.mask)
      ∙ or_assoc a.mask b.mask b.mask
      ∙ ap (bit_or a.mask) (or_self b.mask));
  lub = λ a b c p q.
      from (bit_or a.mask b.mask) c.mask
      (or_assoc a.mask b.mask c.mask
      ∙ ap (bit_or a.mask) (into b.mask c.mask q)
      ∙ into a.mask c.mask p);
}
