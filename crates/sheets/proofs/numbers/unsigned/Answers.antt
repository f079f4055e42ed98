-- A number's text is read as it, also where 64 bits with a sign stand for 32 without.
use Rattle.std.proofs.Common.{rules, arith, ◌≡◌, ◌≤◌, ◌<◌, ◌^◌, ℕ, ℤ, pos, ap, ◌∙◌, sym, subst}
use Rattle.std.proofs.Common.{to_z, of_z}
use Rattle.std.proofs.Common.{Ok}
use Rattle.std.proofs.Math.IntN.{nat_abs}
use Rattle.std.specs.Int.{w64}
use Rattle.std.specs.Int.RustNames.{FitsSigned}
use Rattle.std.proofs.lemmas.Int.{to_z-of_z}
use Rattle.sheets.specs.Numbers.{Between}
use Rattle.sheets.proofs.numbers.unsigned.Goals as goal

fits : (n : ℕ) → n < 2 ^ 32 → FitsSigned w64 (pos n)
fits n small = record { sfits = omega (arith, small) }

between : (n most : ℕ) (m : ℤ) → most < 2 ^ 32 → m ≡ pos most → n ≤ most
    → Between (pos 0) (to_z w64 (of_z w64 m)) (pos n)
between n most m small e le =
    let at : Between (pos 0) (pos most) (pos n) = search (rules, le) in
    subst (λ z. Between (pos 0) z (pos n))
    (sym (ap (λ z. to_z w64 (of_z w64 z)) e ∙ to_z-of_z w64 (pos most) (fits most small))) at

pub returns-in-Ok-clause-reads : goal.returns-in-Ok-clause-reads
returns-in-Ok-clause-reads c =
    λ n small is.
    let f = fits n (omega (arith, small, c.ranges.most.fits)) in
    let e =
    c.in-Ok.ensures.reads (pos n) f
    (between n c.args.most c.from-most.result c.ranges.most.fits c.from-most.ensures small) is
    in
    let same : c.in-Ok.number ≡ pos n = grind (arith, e) in
    ap (λ z. Ok (nat_abs (to_z w64 (of_z w64 z)))) same
    ∙ ap (λ z. Ok (nat_abs z)) (to_z-of_z w64 (pos n) f)

pub returns-in-Err-clause-reads : goal.returns-in-Err-clause-reads
returns-in-Err-clause-reads c =
    λ n small is.
    let f = fits n (omega (arith, small, c.ranges.most.fits)) in
    let e =
    c.in-Err.ensures.reads (pos n) f
    (between n c.args.most c.from-most.result c.ranges.most.fits c.from-most.ensures small) is
    in
    absurd (cc e)
