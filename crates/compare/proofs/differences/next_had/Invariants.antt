-- What was passed over the observer does not have.
use Rattle.std.proofs.Common.{◌≡◌, filter, length}
use Rattle.compare.proofs.differences.next_had.Given as goal

abbrev pub invariant-loop-element : goal.invariant-loop-element
invariant-loop-element g l = filter (g.C.Comparer.has l.comparer) l.list ≡ filter (g.C.Comparer.has l.comparer) l.rest

abbrev pub decreases-loop-element : goal.decreases-loop-element
decreases-loop-element g l = length l.rest
