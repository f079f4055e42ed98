-- The law of depth and commands, as it is proved in `Room`.
use Rattle.machine.proofs.Room.{within_sizes}
use Rattle.machine.proofs.theorems.within_sizes.Goals as goal

pub returns : goal.returns
returns g c = within_sizes g.L.Label.kind
