-- A noop, by whether the policy allows it.
use Rattle.std.proofs.Common.{sym, Ok, Err}
use Rattle.steps.proofs.Doing.{asked, hands_on, does, allowed, forbidden}
use Rattle.steps.proofs.registers.Fetched.noop.Goals as goal

pub returns-in_err-verdict : goal.returns-in_err-verdict
returns-in_err-verdict g c rest room =
    let asks = asked (λ q. q) (Err c.in_err-verdict.field-0.0) c.request.ensures c.in_err-verdict.ensures in
    hands_on c.from_residual.ensures.1 (forbidden asks) (λ table true. asks.holds table true _)

pub returns : goal.returns
returns g c rest room =
    let asks = asked (λ q. q) (Ok c.in_ok-verdict.verdict) c.request.ensures c.in_ok-verdict.ensures in
    does c.next.ensures (allowed c.in_ok-verdict.verdict asks) room.depth room.commands
    (λ table true. sym (asks.holds table true _))
