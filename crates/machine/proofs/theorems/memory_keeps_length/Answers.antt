-- The law of the memory's length, as it is proved in `Lasting`.
use Rattle.machine.proofs.Lasting.{memory_keeps_length}
use Rattle.machine.proofs.theorems.memory_keeps_length.Goals as goal

pub returns : goal.returns
returns g c = memory_keeps_length g.L.Label.kind
