-- A step, by what stands at the program counter.
use Rattle.std.proofs.Common.{Err, sym, ap, ◌∙◌}
use Rattle.machine.specs.Steps.{contents, made_of, step}
use Rattle.steps.specs.Operations.{round}
use Rattle.steps.proofs.Doing.{ends, hands_on, unasked, defined_as}
use Rattle.steps.proofs.Stepping.{steps_outside, steps_on, fuelled}
use Rattle.steps.proofs.registers.Registers.step.Goals as goal

pub returns-in_err-op-clause-steps : goal.returns-in_err-op-clause-steps
returns-in_err-op-clause-steps g c =
    let outside = rw c.in_err-op.was at c.fetch.ensures in
    let parts = contents c.args.program.now c.args.memory.now c.args.stack.now c.args.log.now in
    hands_on c.from_residual.ensures.1 unasked
    (λ table true.
    steps_outside g.L.Label.kind table (made_of parts) (round c.args.self parts) c.args.fuel
    outside.0
    ∙ ap Err (sym outside.1))

pub returns-then-fuel-eq0-clause-steps : goal.returns-then-fuel-eq0-clause-steps
returns-then-fuel-eq0-clause-steps g c =
    let fetched = rw c.in_ok-op.was at c.fetch.ensures in
    let parts = contents c.args.program.now c.args.memory.now c.args.stack.now c.args.log.now in
    let s = round c.args.self parts in
    let kind = g.L.Label.kind in
    ends unasked
    (λ table true. ap (λ fuel. step kind table (made_of parts) fuel s) c.if-fuel-eq0.true
    ∙ steps_on kind table (made_of parts) s 0 c.in_ok-op.op.now fetched.1
    ∙ c.without_fuel.ensures table (made_of parts) parts)

pub returns-clause-steps : goal.returns-clause-steps
returns-clause-steps g c =
    let fetched = rw c.in_ok-op.was at c.fetch.ensures in
    let parts = contents c.args.program.now c.args.memory.now c.args.stack.now c.args.log.now in
    let s = round c.args.self parts in
    let kind = g.L.Label.kind in
    let op = c.in_ok-op.op.now in
    defined_as
    (λ table. steps_on kind table (made_of parts) s c.args.fuel op fetched.1
    ∙ fuelled kind table (made_of parts) s c.args.fuel c.if-fuel-eq0.false op)
    (c.operate.ensures parts (record { depth = c.requires.stack_holds; commands = c.requires.log_holds }))

pub operate-requires-clause-in_program : goal.operate-requires-clause-in_program
operate-requires-clause-in_program g c =
    let fetched = rw c.in_ok-op.was at c.fetch.ensures in
    fetched.0
