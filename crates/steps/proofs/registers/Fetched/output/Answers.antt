-- An output, by whether there are a number and room in the log and the policy allows it.
use Rattle.std.proofs.Common.{◌<◌, ◌≤◌, ◌∷◌, ◌++◌, [], length, refl, sym, ap, ◌∙◌, arith, Ok, Err}
use Rattle.std.proofs.lemmas.List.{length-take-le}
use Rattle.std.proofs.lemmas.Bool.{leb-true, leb-false}
use Rattle.steps.specs.Operations.{placed, with_log}
use Rattle.steps.specs.Windows.{logged}
use Rattle.steps.proofs.Doing.{asked, used_ends, used_hands_on, used_does, done_commands}
use Rattle.steps.proofs.Doing.{with_room, no_room, allowed, forbidden, unasked}
use Rattle.steps.proofs.registers.Fetched.output.Goals as goal

pub returns-in_err-a : goal.returns-in_err-a
returns-in_err-a g c rest room =
    used_hands_on (placed c.args.self 0) c.args.used.now (with_log c.args.log.now rest)
    c.from_residual.ensures.1 unasked (λ table true. c.in_err-a.ensures _)

pub returns-then-is_full : goal.returns-then-is_full
returns-then-is_full g c rest room =
    let window = c.args.self.window in
    let full : length c.args.log.now ≤ length (logged window c.args.log.now) =
    omega (
      arith,
      length-take-le window.count c.args.log.now room.commands,
      leb-true _ _ (sym c.if-is_full.ensures),
    ) in
    used_ends (placed c.args.self 0) c.args.used.now (with_log c.args.log.now rest) unasked
    (λ table true. c.in_ok-a.ensures.1 _ ∙ no_room _ _ _ _ full)

pub returns-in_err-verdict : goal.returns-in_err-verdict
returns-in_err-verdict g c rest room =
    let window = c.args.self.window in
    let more : length (logged window c.args.log.now) < length c.args.log.now =
    omega (
      arith,
      length-take-le window.count c.args.log.now room.commands,
      leb-false _ _ (sym c.if-is_full.ensures),
    ) in
    let asks =
    asked (λ q. record q { a = c.in_ok-a.a.label }) (Err c.in_err-verdict.field-0.0)
    c.request.ensures c.in_err-verdict.ensures in
    used_hands_on (placed c.args.self 0) c.args.used.now (with_log c.args.log.now rest)
    c.from_residual-in_err-verdict.ensures.1 (forbidden asks)
    (λ table true. c.in_ok-a.ensures.1 _ ∙ with_room _ _ _ _ more ∙ asks.holds table true _)

pub returns : goal.returns
returns g c rest room =
    let window = c.args.self.window in
    let log = c.args.log.now in
    let more : length (logged window log) < length log =
    omega (
      arith,
      length-take-le window.count log room.commands,
      leb-false _ _ (sym c.if-is_full.ensures),
    ) in
    let asks =
    asked (λ q. record q { a = c.in_ok-a.a.label }) (Ok c.in_ok-verdict.verdict)
    c.request.ensures c.in_ok-verdict.ensures in
    let fits : c.push-window.result.count ≤ length log =
    omega (arith, c.push-window.ensures.count, leb-false _ _ (sym c.if-is_full.ensures)) in
    used_does (placed c.args.self 0) c.args.used.now (with_log log rest) _ (with_log _ rest)
    c.next.ensures (allowed c.in_ok-verdict.verdict asks) refl (omega arith) fits
    (λ table true.
    done_commands (c.push-window.ensures.pushed ∙ ap (λ v. logged window log ++ v ∷ []) c.relabelled.ensures)
    ∙ sym (c.in_ok-a.ensures.1 _ ∙ with_room _ _ _ _ more ∙ asks.holds table true _))
