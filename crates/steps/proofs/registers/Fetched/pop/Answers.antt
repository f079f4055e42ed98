-- A pop, by whether there is a number and the policy allows it.
use Rattle.std.proofs.Common.{refl, sym, ◌∙◌, arith, Ok, Err}
use Rattle.steps.specs.Operations.{placed}
use Rattle.steps.proofs.Doing.{asked, used_hands_on, used_does, allowed, forbidden, unasked}
use Rattle.steps.proofs.registers.Fetched.pop.Goals as goal

pub returns-in_err-a : goal.returns-in_err-a
returns-in_err-a g c rest room =
    used_hands_on (placed c.args.self 0) c.args.used.now rest c.from_residual.ensures.1 unasked
    (λ table true. c.in_err-a.ensures _)

pub returns-in_err-verdict : goal.returns-in_err-verdict
returns-in_err-verdict g c rest room =
    let asks =
    asked (λ q. record q { a = c.in_ok-a.a.label }) (Err c.in_err-verdict.field-0.0)
    c.request.ensures c.in_err-verdict.ensures in
    used_hands_on (placed c.args.self 0) c.args.used.now rest c.from_residual-in_err-verdict.ensures.1 (forbidden asks)
    (λ table true. c.in_ok-a.ensures.1 _ ∙ asks.holds table true _)

pub returns : goal.returns
returns g c rest room =
    let asks =
    asked (λ q. record q { a = c.in_ok-a.a.label }) (Ok c.in_ok-verdict.verdict)
    c.request.ensures c.in_ok-verdict.ensures in
    used_does (placed c.args.self 0) c.args.used.now rest _ rest c.next.ensures
    (allowed c.in_ok-verdict.verdict asks) refl (omega arith) room.commands
    (λ table true. sym (c.in_ok-a.ensures.1 _ ∙ asks.holds table true _))
