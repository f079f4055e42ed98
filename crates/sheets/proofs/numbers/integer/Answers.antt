-- A number's text is parsed to it, and begins with no `+`.
use Rattle.std.proofs.Common.{lit<, sym, ap, ◌∙◌, get_or}
use Rattle.std.specs.Int.{w64}
use Rattle.std.proofs.lemmas.Fmt.{parse-signed_decimal}
use Rattle.std.proofs.lemmas.Str.Pattern.{starts_char}
use Rattle.sheets.proofs.Digits.{no_plus}
use Rattle.sheets.proofs.numbers.integer.Goals as goal

pub returns-then-starts_with : goal.returns-then-starts_with
returns-then-starts_with c =
    λ z fits is.
    absurd
    (no_plus z fits.sfits
    (ap (λ l. get_or l 0 0) (sym is)
    ∙ (starts_char 43 c.args.word.now c.starts_with.result c.starts_with.ensures.cases (lit< tt)
    (lit< tt)).0 c.if-starts_with.true))

pub returns : goal.returns
returns c =
    λ z fits is.
    let number =
    parse-signed_decimal w64 z c.args.word.now c.parse.result fits fits.sfits is
    c.parse.ensures.value.0 in
    rw number at c.map_err.ensures.cases
