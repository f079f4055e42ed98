-- A store, by whether there are two numbers and the cell and the policy allows it.
use Rattle.std.proofs.Common.{set, refl, sym, ap, ◌∙◌, arith, Ok, Err}
use Rattle.steps.specs.Operations.{placed, with_memory}
use Rattle.steps.proofs.Doing.{asked, used_hands_on, used_does, done_memory, allowed, forbidden, unasked}
use Rattle.machine.specs.Steps.{◌at◌, set_place}
use Rattle.steps.proofs.registers.Fetched.store.Goals as goal

pub returns-in_err-b : goal.returns-in_err-b
returns-in_err-b g c rest room =
    used_hands_on (placed c.args.self 0) c.args.used.now (with_memory c.args.memory.now rest)
    c.from_residual.ensures.1 unasked (λ table true. c.in_err-b.ensures _)

pub returns-in_err-index : goal.returns-in_err-index
returns-in_err-index g c rest room =
    used_hands_on (placed c.args.self 0) c.args.used.now (with_memory c.args.memory.now rest)
    c.from_residual-in_err-index.ensures.1 unasked
    (λ table true. c.in_ok-b.ensures.1 _ ∙ c.in_err-index.ensures _)

pub returns-in_err-verdict : goal.returns-in_err-verdict
returns-in_err-verdict g c rest room =
    let asks =
    asked
    (λ q.
    record q
    { a = c.in_ok-b.a.label; b = c.in_ok-b.b.label; c = c.in_ok-index.field-0.element.label })
    (Err c.in_err-verdict.field-0.0) c.request.ensures c.in_err-verdict.ensures in
    used_hands_on (placed c.args.self 0) c.args.used.now (with_memory c.args.memory.now rest)
    c.from_residual-in_err-verdict.ensures.1 (forbidden asks)
    (λ table true. c.in_ok-b.ensures.1 _ ∙ c.in_ok-index.ensures.2 _ ∙ asks.holds table true _)

pub returns : goal.returns
returns g c rest room =
    let cell = c.in_ok-index.ensures in
    let memory = c.args.memory.now in
    let value = c.in_ok-b.b.value at c.in_ok-verdict.verdict.result in
    let asks =
    asked
    (λ q.
    record q
    { a = c.in_ok-b.a.label; b = c.in_ok-b.b.label; c = c.in_ok-index.field-0.element.label })
    (Ok c.in_ok-verdict.verdict) c.request.ensures c.in_ok-verdict.ensures in
    used_does (placed c.args.self 0) c.args.used.now (with_memory c.args.memory.now rest) _
    (with_memory _ rest) c.next.ensures (allowed c.in_ok-verdict.verdict asks) refl
    (omega arith) room.commands
    (λ table true.
    done_memory
    (ap (set memory c.in_ok-index.field-0.index) (c.write.ensures ∙ c.relabelled.ensures)
    ∙ ap (λ place. set_place memory place value) (sym cell.0))
    ∙ sym (c.in_ok-b.ensures.1 _ ∙ cell.2 _ ∙ asks.holds table true _))
