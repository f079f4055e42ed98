-- No label's text begins another's: the proofs of that law for sets of growers and for pairs.
use Rattle.std.specs.Prelude.{◌≡◌, ℕ, ◌/◌, ◌%◌, ◌<◌, List, ◌++◌}
use Rattle.std.proofs.Common.{sym, ap, ap₂, ◌∙◌, append_assoc, arith}
use Rattle.std.proofs.lemmas.List.{append_cancel_left}
use Rattle.labels.specs.Growers.{hex, grower_text}
use Rattle.labels.specs.Pair.{pair, pair_text}
use Rattle.labels.specs.Text.{PrefixFree, BeginsWith}
use Rattle.labels.specs.declared.pair.Pair.{Pair}
use Rattle.labels.specs.Masks.{same_mask}

-- Growers: four digits give back the mask.

-- no two numbers below 16 have the same digit
hex_is_one : (m n : ℕ) → m < 16 → n < 16 → hex m ≡ hex n → m ≡ n
hex_is_one m n p q e = grind (arith)

-- sets whose texts begin the same bytes are the same
pub growers_prefix_free : PrefixFree grower_text
growers_prefix_free a b s t e =
    let p : hex (a.mask / 4096) ≡ hex (b.mask / 4096) = cc in
    let q : hex (a.mask / 256 % 16) ≡ hex (b.mask / 256 % 16) = cc in
    let r : hex (a.mask / 16 % 16) ≡ hex (b.mask / 16 % 16) = cc in
    let l : hex (a.mask % 16) ≡ hex (b.mask % 16) = cc in
    let fa = a.fits in
    let fb = b.fits in
    same_mask a b (omega (
      arith,
      hex_is_one (a.mask / 4096) (b.mask / 4096) (omega arith) (omega arith) p,
      hex_is_one (a.mask / 256 % 16) (b.mask / 256 % 16) (omega arith) (omega arith) q,
      hex_is_one (a.mask / 16 % 16) (b.mask / 16 % 16) (omega arith) (omega arith) r,
      hex_is_one (a.mask % 16) (b.mask % 16) (omega arith) (omega arith) l,
    ))

-- Pairs: the right text begins where the left one ends.

module _ {A B : Type 0} (left : A → List ℕ) (right : B → List ℕ) where
  -- bytes that begin with a pair's text begin with its left text, and go on with its right one
  pub in_two : (x : Pair A B) (bytes rest : List ℕ) → bytes ≡ pair_text left right x ++ rest
      → bytes ≡ left x.left ++ (right x.right ++ rest)
  in_two x bytes rest e = e ∙ append_assoc (left x.left) (right x.right) rest

  -- where bytes begin with a pair's text and with a's, the right text stands behind a's
  pub pair_rest : PrefixFree left
      → (bytes : List ℕ) (a : A) (rest : List ℕ) → bytes ≡ left a ++ rest
      → (x : Pair A B) → BeginsWith (pair_text left right) bytes x
      → (x.left ≡ a) × BeginsWith right rest x.right
  pair_rest free bytes a rest e x (more, f) =
      let two = in_two x bytes more f in
      let one : x.left ≡ a = free x.left a (right x.right ++ more) rest (sym two ∙ e) in
      let same : left a ++ rest ≡ left a ++ (right x.right ++ more) =
      sym e ∙ two ∙ ap (λ y. left y ++ (right x.right ++ more)) one in
      (one, (more, append_cancel_left (left a) rest (right x.right ++ more) same))

  -- if no text of either part begins another, no pair's does
  pub pair_prefix_free : PrefixFree left → PrefixFree right → PrefixFree (pair_text left right)
  pair_prefix_free left_free right_free x y s t e =
      let whole = append_assoc (left y.left) (right y.right) t in
      let bytes = pair_text left right y ++ t in
      let (one, (rest, f)) =
      pair_rest left_free bytes y.left (right y.right ++ t) whole x (s, sym e) in
      ap₂ pair one (right_free x.right y.right rest t (sym f))
