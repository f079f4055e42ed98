-- The law of enters and looks, as it is proved in `Entering`.
use Rattle.machine.proofs.Entering.{entered_is_shown}
use Rattle.machine.proofs.theorems.entered_is_shown.Goals as goal

pub returns : goal.returns
returns g c = entered_is_shown g.L.Label.kind
