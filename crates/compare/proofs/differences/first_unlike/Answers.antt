-- One place more is alike, or differs, or a list is at its end.
use Rattle.std.proofs.Common.{◌≡◌, ◌<◌, ◌≤◌, length, refl, arith}
use Rattle.compare.proofs.Breaking.{shifted_zero}
use Rattle.compare.proofs.Walking.{first_over, both_over, second_over, differ_at, compared_on}
use Rattle.compare.proofs.differences.first_unlike.Goals as goal

pub loop-place-init : goal.loop-place-init
loop-place-init g c p breaks = rw (shifted_zero p) breaks

pub returns-in_default : goal.returns-in_default
returns-in_default g c =
    let inside : c.loop-place.place < length c.args.first.now = omega arith in
    second_over
    (g.C.Comparer.alike c.args.comparer.now) _ _ _ c.loop-place.invariant c.index-first-place.result inside
    c.index-first-place.is c.in_default.ensures.lookup.3

pub returns-then-not-alike : goal.returns-then-not-alike
returns-then-not-alike g c =
    let inside : c.loop-place.place < length c.args.first.now = omega arith in
    differ_at
    (g.C.Comparer.alike c.args.comparer.now) _ _ _ c.loop-place.invariant c.index-first-place.result inside
    c.index-first-place.is
    c.in-Some.other.now c.in-Some.ensures.lookup.3.0 c.in-Some.ensures.lookup.1 (λ r. cc (c.if-not-alike.ensures.1 r))

pub loop-place-preserved : goal.loop-place-preserved
loop-place-preserved g c =
    let inside : c.loop-place.place < length c.args.first.now = omega arith in
    compared_on
    (g.C.Comparer.alike c.args.comparer.now) _ _ _ c.loop-place.invariant c.index-first-place.result inside
    c.index-first-place.is
    c.in-Some.other.now c.in-Some.ensures.lookup.3.0 c.in-Some.ensures.lookup.1 (c.if-not-alike.ensures.0 refl)

pub returns-then-first-second : goal.returns-then-first-second
returns-then-first-second g c =
    let over : length c.args.first.now ≤ c.loop-place.place = omega arith in
    let inside : c.loop-place.place < length c.args.second.now = omega arith in
    let here : c.loop-place.place ≡ length c.args.first.now = omega arith in
    rw (← here) (first_over (g.C.Comparer.alike c.args.comparer.now) _ _ _ c.loop-place.invariant over inside)

pub returns-else-first-second : goal.returns-else-first-second
returns-else-first-second g c =
    let over : length c.args.first.now ≤ c.loop-place.place = omega arith in
    let over' : length c.args.second.now ≤ c.loop-place.place = omega arith in
    both_over (g.C.Comparer.alike c.args.comparer.now) _ _ _ c.loop-place.invariant over over'
