-- A return, by whether there is a frame and whether a result is due.
use Rattle.std.proofs.Common.{length, ap, ◌∙◌}
use Rattle.machine.specs.Steps.{return_to}
use Rattle.steps.specs.Operations.{round, starting, with_stack}
use Rattle.steps.specs.Walks.{newest}
use Rattle.steps.proofs.Doing.{used_hands_on, used_defined_as, unasked}
use Rattle.steps.proofs.registers.Registers.return_to_frame.Goals as goal

pub returns-in_err-index : goal.returns-in_err-index
returns-in_err-index g c rest room =
    used_hands_on c.args.self c.args.used.now rest c.from_residual.ensures.1 unasked
    (λ table true. c.in_err-index.ensures _)

pub returns-then-frame : goal.returns-then-frame
returns-then-frame g c rest room =
    let used = c.args.used.now in
    let found = c.in_ok-index.field-0 in
    let before = round (starting c.args.self (length used)) (with_stack used rest) in
    used_defined_as c.args.self used rest _ rest
    (λ table setup. c.in_ok-index.ensures.1 _
    ∙ ap
    (λ due.
    return_to g.L.Label.kind table setup due found.element (newest found.index used) before)
    c.if-frame.true)
    (c.return_number.ensures rest room)

pub returns-else-frame : goal.returns-else-frame
returns-else-frame g c rest room =
    let used = c.args.used.now in
    let found = c.in_ok-index.field-0 in
    let before = round (starting c.args.self (length used)) (with_stack used rest) in
    used_defined_as c.args.self used rest _ rest
    (λ table setup. c.in_ok-index.ensures.1 _
    ∙ ap
    (λ due.
    return_to g.L.Label.kind table setup due found.element (newest found.index used) before)
    c.if-frame.false)
    (c.return_nothing.ensures rest room)
