-- Texts of sets of growers, and bytes that begin with no pair's text.
use Rattle.std.specs.Prelude.{◌≡◌, ℕ, ◌/◌, ◌%◌, ◌<◌, List, ◌++◌, None}
use Rattle.std.proofs.Common.{arith}
use Rattle.std.proofs.Math.Utf8.{encode}
use Rattle.std.proofs.lemmas.Str.Ascii.{encode_ascii}
use Rattle.labels.specs.Growers.{hex, grower_text}
use Rattle.labels.specs.Pair.{pair_text}
use Rattle.labels.specs.Text.{PrefixFree, Reads}
use Rattle.labels.specs.PrefixFree.{in_two, pair_rest}
use Rattle.labels.specs.declared.growers.mask.Growers.{Growers}

hex_byte : (n : ℕ) → n < 16 → hex n < 128
hex_byte n p = grind (arith)

-- the four digits of a mask, each written as a character, are the text of the set
pub four_bytes : (x : Growers) (a b c d : ℕ)
    → a ≡ hex (x.mask / 4096) → b ≡ hex (x.mask / 256 % 16)
    → c ≡ hex (x.mask / 16 % 16) → d ≡ hex (x.mask % 16)
    → encode a ++ (encode b ++ (encode c ++ encode d)) ≡ grower_text x
four_bytes x a b c d p q r s =
    let fits = x.fits in
    let ea = encode_ascii a (omega (arith, hex_byte (x.mask / 4096) (omega arith))) in
    let eb = encode_ascii b (omega (arith, hex_byte (x.mask / 256 % 16) (omega arith))) in
    let ec = encode_ascii c (omega (arith, hex_byte (x.mask / 16 % 16) (omega arith))) in
    let ed = encode_ascii d (omega (arith, hex_byte (x.mask % 16) (omega arith))) in
    rw (ea, eb, ec, ed) (cc)

module _ {A B : Type 0} (left : A → List ℕ) (right : B → List ℕ) where
  -- bytes that begin with no left text begin with no pair's
  pub no_left : (bytes : List ℕ) → Reads left bytes None → Reads (pair_text left right) bytes None
  no_left bytes none x (rest, e) =
      none x.left (right x.right ++ rest, in_two left right x bytes rest e)

  -- nor do bytes that go on with no right text behind a left one
  pub no_right : PrefixFree left → (bytes : List ℕ) (a : A) (rest : List ℕ) → bytes ≡ left a ++ rest
      → Reads right rest None → Reads (pair_text left right) bytes None
  no_right free bytes a rest e none x there =
      none x.right (pair_rest left right free bytes a rest e x there).1
