-- Up to this element the lists do not differ, and `rest` is what is left of the second.
use Rattle.std.proofs.Common.{◌≤◌}
use Rattle.compare.proofs.Walking.{Walked}
use Rattle.compare.proofs.differences.first_difference.Given as goal

abbrev pub invariant-loop-element : goal.invariant-loop-element
invariant-loop-element g l = (l.place ≤ l.element-index)
    × Walked (g.C.Comparer.alike l.comparer) (g.C.Comparer.symmetric l.comparer)
    (g.C.Comparer.has l.comparer) l.first l.second l.element-index l.place l.rest
