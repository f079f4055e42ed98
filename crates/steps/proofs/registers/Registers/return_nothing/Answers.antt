-- A return with no result due, by whether the policy allows it.
use Rattle.std.proofs.Common.{refl, sym, ◌∙◌, arith, Ok, Err, w64, SFits, rules}
use Rattle.std.proofs.lemmas.Int.{to_z-of_z}
use Rattle.steps.proofs.Doing.{asked, used_hands_on, used_does, done_place, allowed, forbidden}
use Rattle.steps.proofs.registers.Registers.return_nothing.Goals as goal

pub returns-in_err-verdict : goal.returns-in_err-verdict
returns-in_err-verdict g c rest room =
    let asks =
    asked (λ q. record q { a = c.args.frame.label }) (Err c.in_err-verdict.field-0.0)
    c.request.ensures c.in_err-verdict.ensures in
    used_hands_on c.args.self c.args.used.now rest c.from_residual.ensures.1 (forbidden asks)
    (λ table true. asks.holds table true _)

pub returns : goal.returns
returns g c rest room =
    let asks =
    asked (λ q. record q { a = c.args.frame.label }) (Ok c.in_ok-verdict.verdict)
    c.request.ensures c.in_ok-verdict.ensures in
    let fits : SFits w64 c.args.frame.place = search rules in
    used_does c.args.self c.args.used.now rest _ rest refl (allowed c.in_ok-verdict.verdict asks)
    refl (omega arith) room.commands
    (λ table true. done_place (to_z-of_z w64 c.args.frame.place fits) ∙ sym (asks.holds table true _))
