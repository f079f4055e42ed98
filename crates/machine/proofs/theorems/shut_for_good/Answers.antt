-- The law of shut stations, as it is proved in `Lasting`.
use Rattle.machine.proofs.Lasting.{shut_for_good}
use Rattle.machine.proofs.theorems.shut_for_good.Goals as goal

pub returns : goal.returns
returns g c = shut_for_good g.L.Label.kind
