-- Noninterference, as it is proved in `Secrecy`.
use Rattle.machine.proofs.Secrecy.{noninterference}
use Rattle.machine.proofs.theorems.noninterference.Goals as goal

pub returns : goal.returns
returns g c = noninterference g.met.L.Label.lawful
