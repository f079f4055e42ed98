-- The law of refused calls, as it is proved in `Entering`.
use Rattle.machine.proofs.Entering.{refused_changes_nothing}
use Rattle.machine.proofs.theorems.refused_changes_nothing.Goals as goal

pub returns : goal.returns
returns g c = refused_changes_nothing g.L.Label.kind
