-- A station is made, and noninterference holds.
use Rattle.machine.proofs.Secrecy.{noninterference}
use Rattle.station.proofs.idle.Idle.make.Goals as goal

pub returns-in_err-check_limits-clause-secrecy : goal.returns-in_err-check_limits-clause-secrecy
returns-in_err-check_limits-clause-secrecy g c = noninterference g.met.L.Label.lawful

pub returns-clause-secrecy : goal.returns-clause-secrecy
returns-clause-secrecy g c = noninterference g.met.L.Label.lawful
