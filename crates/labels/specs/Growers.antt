-- Sets of sixteen growers by their masks: inclusion as order, union as join.
use Rattle.std.specs.Prelude.{◌≡◌, ◌≢◌, ℕ, ◌+◌, ◌/◌, ◌%◌, ◌^◌, ◌<◌, ◌==◌, nat_lt, bit_or}
use Rattle.std.specs.Prelude.{cond, ◌⊎◌, List, [], ◌∷◌, Some, None, Option}
use Rattle.std.proofs.lemmas.Nat.{or_lt}
use Rattle.std.proofs.Common.{lit<}
use Rattle.labels.specs.Kind.{Kind}
use Rattle.labels.specs.declared.growers.mask.Growers.{Growers}

-- grower g is in the set: bit g of the mask is 1
abbrev pub In : ℕ → Growers → Type 0
In g a = a.mask / 2 ^ g % 2 ≡ 1

-- every grower in a is in b
abbrev pub IsSubset : Growers → Growers → Type 0
IsSubset a b = (g : ℕ) → In g a → In g b

-- r has the growers of a and of b, and no other
abbrev pub Unites : Growers → Growers → Growers → Type 0
Unites a b r = (g : ℕ) → (In g r → In g a ⊎ In g b) × (In g a → In g r) × (In g b → In g r)

-- by masks: a is within b if adding a's growers to b adds none
abbrev pub grower_sets : Kind Growers
grower_sets = record {
  below = λ a b. (bit_or a.mask b.mask == b.mask);
  bottom = record { mask = 0; fits = lit< tt };
  join = λ a b. record { mask = bit_or a.mask b.mask; fits = or_lt 16 a.mask b.mask a.fits b.fits };
}

-- the lower-case hexadecimal digit of a number below 16, as a byte
abbrev pub hex : ℕ → ℕ
hex n = cond (nat_lt n 10) (48 + n) (87 + n)

-- which number's digit a byte is, if any
abbrev pub HexDigit : ℕ → Option ℕ → Type 0
HexDigit byte None = (n : ℕ) → n < 16 → byte ≢ hex n
HexDigit byte (Some n) = (n < 16) × (byte ≡ hex n)

-- the four digits of the mask, the highest first
abbrev pub grower_text : Growers → List ℕ
grower_text a =
    hex (a.mask / 4096) ∷ hex (a.mask / 256 % 16) ∷ hex (a.mask / 16 % 16) ∷ hex (a.mask % 16) ∷ []
