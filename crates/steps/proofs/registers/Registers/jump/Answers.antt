-- A jump, by whether there is a number and the policy allows it.
use Rattle.std.proofs.Common.{◌≡◌, refl, sym, ◌∙◌, arith, Ok, Err, w32, w64, SFits, to_z, of_z, rules}
use Rattle.steps.proofs.Doing.{asked, used_hands_on, used_does, done_place, allowed, forbidden, unasked}
use Rattle.std.proofs.lemmas.Int.{ints}
use Rattle.steps.proofs.registers.Registers.jump.Goals as goal

pub returns-in_err-a : goal.returns-in_err-a
returns-in_err-a g c rest room =
    used_hands_on c.args.self c.args.used.now rest c.from_residual.ensures.1 unasked
    (λ table true. c.in_err-a.ensures _)

pub returns-in_err-verdict : goal.returns-in_err-verdict
returns-in_err-verdict g c rest room =
    let asks =
    asked (λ q. record q { a = c.in_ok-a.a.label }) (Err c.in_err-verdict.field-0.0)
    c.request.ensures c.in_err-verdict.ensures in
    used_hands_on c.args.self c.args.used.now rest c.from_residual-in_err-verdict.ensures.1 (forbidden asks)
    (λ table true. c.in_ok-a.ensures.1 _ ∙ asks.holds table true _)

pub returns : goal.returns
returns g c rest room =
    let asks =
    asked (λ q. record q { a = c.in_ok-a.a.label }) (Ok c.in_ok-verdict.verdict)
    c.request.ensures c.in_ok-verdict.ensures in
    let fits : SFits w32 c.in_ok-a.a.value = search rules in
    let same : to_z w64 (of_z w64 c.from.result) ≡ c.in_ok-a.a.value = omega (arith, ints) in
    let a = c.in_ok-a.ensures in
    used_does c.args.self c.args.used.now rest _ rest refl (allowed c.in_ok-verdict.verdict asks)
    refl (omega arith) room.commands
    (λ table true. done_place same ∙ sym (a.1 _ ∙ asks.holds table true _))
