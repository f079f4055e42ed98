-- The law of the policy that forbids everything, as it is proved in `Forbidding`.
use Rattle.machine.proofs.Forbidding.{forbidden_does_nothing}
use Rattle.machine.proofs.theorems.forbidden_does_nothing.Goals as goal

pub returns : goal.returns
returns g c = forbidden_does_nothing g.L.Label.kind
