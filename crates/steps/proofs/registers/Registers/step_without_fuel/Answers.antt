-- A step with no fuel left, by what stands at the program counter.
use Rattle.std.proofs.Common.{Some, None, Err, sym, ap, ◌∙◌}
use Rattle.machine.specs.Steps.{at_place, made_of}
use Rattle.steps.specs.Operations.{round}
use Rattle.steps.proofs.Stepping.{steps_outside, steps_on}
use Rattle.steps.proofs.registers.Registers.step_without_fuel.Goals as goal

pub returns-in-Err : goal.returns-in-Err
returns-in-Err g c table parts is =
    let outside = rw c.in-Err.is at c.fetch.ensures in
    let s = round c.args.self parts in
    steps_outside g.L.Label.kind table (made_of parts) s 0
    (ap (λ p. at_place p s.pc None Some) is ∙ outside.0)
    ∙ ap Err (sym outside.1)

pub returns-in-Ok : goal.returns-in-Ok
returns-in-Ok g c table parts is =
    let fetched = rw c.in-Ok.is at c.fetch.ensures in
    let s = round c.args.self parts in
    steps_on g.L.Label.kind table (made_of parts) s 0 c.in-Ok.op.now
    (ap (λ p. at_place p s.pc None Some) is ∙ fetched.1)
    ∙ c.without_fuel.ensures table (made_of parts) parts
