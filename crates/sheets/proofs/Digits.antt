-- How the text of a number begins, and that it has no `@`.
use Rattle.std.proofs.Common.{◌≢◌, ℕ, ℤ, pos, negsuc, zero, suc, ◌<◌, ◌^◌, List, ◌∷◌, length}
use Rattle.std.proofs.Common.{get_or, arith}
use Rattle.std.specs.Fmt.{decimal, signed_decimal}
use Rattle.std.specs.Int.Signed.{mag}
use Rattle.std.proofs.lemmas.Fmt.{decimal_is_IsNumeral}
use Rattle.std.proofs.lemmas.Str.Parse.{digit_at}

pub decimal_no_plus : (n : ℕ) → n < 2 ^ 64 → get_or (decimal n) 0 0 ≢ 43
decimal_no_plus n h e =
    let ((some, digits), value) = decimal_is_IsNumeral n h in
    omega (arith, (digit_at (decimal n) 0 digits some).0, e)

-- no plus is in front of a number
pub no_plus : (z : ℤ) → mag z < 2 ^ 63 → get_or (signed_decimal z) 0 0 ≢ 43
no_plus (pos n) h = decimal_no_plus n (omega (arith, h))
no_plus (negsuc n) h = λ e. omega (arith, e)

decimal_no_at : (n : ℕ) → n < 2 ^ 64 → (i : ℕ) → i < length (decimal n)
    → get_or (decimal n) i 0 ≢ 64
decimal_no_at n h i lt =
    let ((some, digits), value) = decimal_is_IsNumeral n h in
    λ e. omega (arith, (digit_at (decimal n) i digits lt).1, e)

-- behind a sign
sign_no_at : (ds : List ℕ) → ((i : ℕ) → i < length ds → get_or ds i 0 ≢ 64) → (i : ℕ)
    → i < length (45 ∷ ds) → get_or (45 ∷ ds) i 0 ≢ 64
sign_no_at ds none zero lt = λ e. omega (arith, e)
sign_no_at ds none (suc i) lt = none i (omega (arith, lt))

pub no_at : (z : ℤ) → mag z < 2 ^ 63 → (i : ℕ) → i < length (signed_decimal z)
    → get_or (signed_decimal z) i 0 ≢ 64
no_at (pos n) h = decimal_no_at n (omega (arith, h))
no_at (negsuc n) h = sign_no_at (decimal (suc n)) (decimal_no_at (suc n) (omega (arith, h)))
