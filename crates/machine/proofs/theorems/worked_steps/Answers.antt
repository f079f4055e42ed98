-- The worked steps, computed.
use Rattle.std.proofs.Common.{refl}
use Rattle.std.specs.Int.{int_wrap}
use Rattle.machine.proofs.theorems.worked_steps.Goals as goal

pub returns : goal.returns
unfolding int_wrap
returns c = refl
