-- A halt is decided, and any other operation waits.
use Rattle.std.proofs.Common.{ap, ◌∙◌}
use Rattle.machine.specs.Steps.{attempt}
use Rattle.steps.specs.Operations.{round}
use Rattle.steps.proofs.Stepping.{waiting}
use Rattle.steps.proofs.registers.Registers.without_fuel.Goals as goal

pub returns-in-Halt : goal.returns-in-Halt
returns-in-Halt g c table setup parts =
    ap (attempt g.L.Label.kind table setup 0 (round c.args.self parts)) c.in-Halt.is
    ∙ c.halted.ensures table setup parts

pub returns-in_default : goal.returns-in_default
returns-in_default g c table setup parts =
    waiting g.L.Label.kind table setup (round c.args.self parts) c.args.op.now c.in_default.not-Halt
