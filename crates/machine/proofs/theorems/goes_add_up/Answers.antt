-- The law of one go after another, as it is proved in `Goes`.
use Rattle.machine.proofs.Goes.{goes_add_up}
use Rattle.machine.proofs.theorems.goes_add_up.Goals as goal

pub returns : goal.returns
returns g c = goes_add_up g.L.Label.kind
