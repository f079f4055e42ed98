-- The question for the next command, as every state answers it.
use Rattle.std.proofs.Common.{refl}
use Rattle.station.specs.Views.{idle_with}
use Rattle.station.proofs.idle.Idle.next_command.Goals as goal

pub returns : goal.returns
returns g c = c.next_command.ensures (idle_with c.args.self.now) (λ _. refl)
