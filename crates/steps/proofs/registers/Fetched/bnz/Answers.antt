-- A branch, by whether there is a number and the policy allows it.
use Rattle.std.proofs.Common.{◌≡◌, refl, sym, ◌∙◌, arith, Ok, Err, w32, w64, SFits, to_z, of_z, rules}
use Rattle.steps.specs.Operations.{placed}
use Rattle.steps.proofs.Doing.{asked, used_hands_on, used_does, done_place, allowed, forbidden, unasked}
use Rattle.machine.specs.Steps.{branch}
use Rattle.std.proofs.lemmas.Int.{to_z-of_z}
use Rattle.steps.proofs.registers.Fetched.bnz.Goals as goal

pub returns-in_err-a : goal.returns-in_err-a
returns-in_err-a g c rest room =
    used_hands_on (placed c.args.self 0) c.args.used.now rest c.from_residual.ensures.1 unasked
    (λ table true. c.in_err-a.ensures _)

pub returns-in_err-verdict : goal.returns-in_err-verdict
returns-in_err-verdict g c rest room =
    let asks =
    asked (λ q. record q { a = c.in_ok-a.a.label }) (Err c.in_err-verdict.field-0.0)
    c.request.ensures c.in_err-verdict.ensures in
    used_hands_on (placed c.args.self 0) c.args.used.now rest c.from_residual-in_err-verdict.ensures.1 (forbidden asks)
    (λ table true. c.in_ok-a.ensures.1 _ ∙ asks.holds table true _)

pub returns : goal.returns
returns g c rest room =
    let asks =
    asked (λ q. record q { a = c.in_ok-a.a.label }) (Ok c.in_ok-verdict.verdict)
    c.request.ensures c.in_ok-verdict.ensures in
    let fits : SFits w32 c.in_ok-a.a.value = search rules in
    let fits-place : SFits w64 c.branch-self.result = search rules in
    let branched = c.branch-self.ensures in
    let same : to_z w64 (of_z w64 c.branch-self.result)
    ≡ branch c.args.self.pc.number c.args.by c.in_ok-a.a.value =
    grind (arith, to_z-of_z) in
    let a = c.in_ok-a.ensures in
    used_does (placed c.args.self 0) c.args.used.now rest _ rest c.goto.ensures
    (allowed c.in_ok-verdict.verdict asks) refl (omega arith) room.commands
    (λ table true. done_place same ∙ sym (a.1 _ ∙ asks.holds table true _))
