-- From looks at the level to looks with a lower clearance.
use Rattle.compare.proofs.Looking.{same_below}
use Rattle.compare.proofs.reports.same_below.Goals as goal

pub returns : goal.returns
returns g c = same_below g.met.L.Label.lawful
