-- The question for the next command, as every state answers it.
use Rattle.std.proofs.Common.{refl}
use Rattle.station.specs.Views.{running_with}
use Rattle.station.proofs.running.Running.next_command.Goals as goal

pub returns : goal.returns
returns g c = c.next_command.ensures (running_with c.args.self.now) (λ _. refl)
