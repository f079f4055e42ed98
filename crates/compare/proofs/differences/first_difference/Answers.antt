-- One element more is alike, or differs, or a list is at its end.
use Rattle.std.proofs.Common.{◌≤◌, ◌<◌, length, refl, sym, arith}
use Rattle.compare.proofs.Breaking.{shifted_zero}
use Rattle.compare.proofs.Walking.{walked_out, passed_over, none_left, stopped, walked_on}
use Rattle.compare.proofs.differences.first_difference.Goals as goal
use Rattle.compare.proofs.differences.first_difference.Goals.{then-has+in_ok-other+else-not-alike, else-has}

pub loop-element-init : goal.loop-element-init
loop-element-init g c = (omega arith, λ p breaks. rw (shifted_zero p) breaks)

pub returns-in_err-other : goal.returns-in_err-other
returns-in_err-other g c =
    let comparer = c.args.comparer.now in
    let inside : c.loop-element.element-index < length c.args.first.now = omega arith in
    rw c.from_residual.ensures (none_left (g.C.Comparer.alike comparer) (g.C.Comparer.symmetric comparer)
    (g.C.Comparer.has comparer) _ _ _ _ _
    c.loop-element.invariant.1 c.element-item.result inside c.element-item.is
    (sym c.if-has.ensures) c.in_err-other.ensures)

pub returns-then-not-alike : goal.returns-then-not-alike
returns-then-not-alike g c =
    let comparer = c.args.comparer.now in
    let inside : c.loop-element.element-index < length c.args.first.now = omega arith in
    stopped (g.C.Comparer.alike comparer) (g.C.Comparer.symmetric comparer) (g.C.Comparer.has comparer) _ _ _ _ _
    c.loop-element.invariant.1 c.element-item.result inside c.element-item.is
    (sym c.if-has.ensures) _ _ c.in_ok-other.ensures (λ r. cc (c.if-not-alike.ensures.1 r))

pub loop-element-preserved : goal.loop-element-preserved
loop-element-preserved g c =
    let comparer = c.args.comparer.now in
    let inside : c.loop-element.element-index < length c.args.first.now = omega arith in
    elim c.if-has.branch [
      | then-has+in_ok-other+else-not-alike w ↦
          rw (w.place-is, w.rest-is) (
            omega arith,
            walked_on (g.C.Comparer.alike comparer) (g.C.Comparer.symmetric comparer)
                (g.C.Comparer.has comparer) _ _ _ _ _
                c.loop-element.invariant.1 c.element-item.result inside c.element-item.is
                (sym w.if-has.ensures) _ _ w.in_ok-other.ensures (w.if-not-alike.ensures.0 refl),
          )
      | else-has w ↦
          rw (w.place-is, w.rest-is) (
            omega arith,
            passed_over (g.C.Comparer.alike comparer) (g.C.Comparer.symmetric comparer)
                (g.C.Comparer.has comparer) _ _ _ _ _
                c.loop-element.invariant.1 c.element-item.result inside c.element-item.is (sym w.if-has.ensures),
          )
    ]

pub returns : goal.returns
returns g c =
    let comparer = c.args.comparer.now in
    let over : length c.args.first.now ≤ c.loop-element.element-index = omega arith in
    walked_out (g.C.Comparer.alike comparer) (g.C.Comparer.symmetric comparer)
    (g.C.Comparer.has comparer) _ _ _ _ _ c.loop-element.invariant.1 over
