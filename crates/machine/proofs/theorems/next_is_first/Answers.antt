-- The law of the question for the next command, as it is proved in `Firsts`.
use Rattle.machine.proofs.Firsts.{next_is_first}
use Rattle.machine.proofs.theorems.next_is_first.Goals as goal

pub returns : goal.returns
returns g c = next_is_first g.L.Label.kind
