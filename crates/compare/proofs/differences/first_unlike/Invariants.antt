-- Up to this place the lists are alike.
use Rattle.compare.proofs.Walking.{Compared}
use Rattle.compare.proofs.differences.first_unlike.Given as goal

abbrev pub invariant-loop-place : goal.invariant-loop-place
invariant-loop-place g l = Compared (g.C.Comparer.alike l.comparer) l.first l.second l.place
