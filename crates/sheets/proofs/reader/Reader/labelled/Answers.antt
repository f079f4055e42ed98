-- What `labelled` reads on both sides of the `@`, and where it gives up.
use Rattle.std.proofs.Common.{◌≡◌, arith, sym, ◌∙◌}
use Rattle.sheets.proofs.Labelled.{parts, one_label, same_number}
use Rattle.sheets.proofs.reader.Reader.labelled.Goals as goal

pub returns-in_default : goal.returns-in_default
returns-in_default g c =
    λ u fits is.
    let cut =
    parts g.L.Label.text c.args.word.now c.split_once.result c.split_once.ensures.cases u fits
    is in
    absurd (rw c.in_default.is at cut)

pub returns-in_err-value : goal.returns-in_err-value
returns-in_err-value g c =
    λ u fits is.
    let cut =
    parts g.L.Label.text c.args.word.now c.split_once.result c.split_once.ensures.cases u fits
    is in
    let (number, label) = rw c.in-Some.is at cut in
    absurd (cc (c.in_err-value.ensures u.value fits number))

pub returns-in_err-label : goal.returns-in_err-label
returns-in_err-label g c =
    λ u fits is.
    let cut =
    parts g.L.Label.text c.args.word.now c.split_once.result c.split_once.ensures.cases u fits
    is in
    let (number, label) = rw c.in-Some.is at cut in
    absurd (c.in_err-label.ensures u.label label)

pub returns : goal.returns
returns g c =
    λ u fits is.
    let cut =
    parts g.L.Label.text c.args.word.now c.split_once.result c.split_once.ensures.cases u fits
    is in
    let (number, label) = rw c.in-Some.is at cut in
    let value : c.in_ok-value.value ≡ u.value =
    grind (arith, c.in_ok-value.ensures u.value fits number) in
    same_number c.in_ok-value.value c.in_ok-label.label u fits value
    (one_label g.L.Label.text g.met.L.Label.unambiguous _ _ (sym c.in_ok-label.ensures ∙ label))
