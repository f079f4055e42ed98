-- The law of fuel and steps, as it is proved in `Goes`.
use Rattle.machine.proofs.Goes.{fuel_spent}
use Rattle.machine.proofs.theorems.fuel_spent.Goals as goal

pub returns : goal.returns
returns g c = fuel_spent g.L.Label.kind
