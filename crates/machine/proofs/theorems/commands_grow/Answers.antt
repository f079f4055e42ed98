-- The law of commands, as it is proved in `Lasting`.
use Rattle.machine.proofs.Lasting.{commands_grow}
use Rattle.machine.proofs.theorems.commands_grow.Goals as goal

pub returns : goal.returns
returns g c = commands_grow g.L.Label.kind
