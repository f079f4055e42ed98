-- One more element of `decoded`, and one that codes nothing.
use Rattle.std.proofs.Common.{◌<◌, ◌+◌, take, length, arith, ap, ◌∙◌, Err, subst, sym}
use Rattle.std.proofs.lemmas.Result.{err_from_is_err_and}
use Rattle.boundary.specs.Parts.{CodesEach, none}
use Rattle.boundary.proofs.Decoding.{codes_more, codes_nothing, unread}
use Rattle.boundary.proofs.lists.decoded.Goals as goal

pub loop-code-init : goal.loop-code-init
loop-code-init g c =
    subst (λ xs. CodesEach g.C.Codes.codes _ xs) (sym c.in_ok-all.ensures.items) none

pub loop-code-preserved : goal.loop-code-preserved
loop-code-preserved g c =
    let inside : c.loop-code.code-index < length c.args.codes.now = omega arith in
    subst (λ xs. CodesEach g.C.Codes.codes (take (c.loop-code.code-index + 1) c.args.codes.now) xs)
    (sym c.in_ok-push.ensures.items)
    (codes_more c.args.codes.now c.loop-code.code-index c.code-item.result inside c.code-item.is
    c.loop-code.invariant c.in_ok-decode.ensures)

pub returns-in_err-decode : goal.returns-in_err-decode
returns-in_err-decode g c =
    let inside : c.loop-code.code-index < length c.args.codes.now = omega arith in
    let handed_on =
    err_from_is_err_and c.from_residual-in_err-decode.result
    c.from_residual-in_err-decode.ensures.1 in
    rw (handed_on.1 ∙ ap Err handed_on.2)
    (unread c.in_err-decode.field-0.0
    (codes_nothing c.args.codes.now c.loop-code.code-index c.code-item.result inside c.code-item.is)
    c.in_err-decode.ensures)
