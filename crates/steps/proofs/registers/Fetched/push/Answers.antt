-- A push, by whether there is room and the policy allows it.
use Rattle.std.proofs.Common.{◌≤◌, ◌∷◌, length, sym, ap, refl, ◌∙◌, arith, Ok, Err, take_all, reverse, ◌+◌}
use Rattle.steps.proofs.Doing.{asked, ends, hands_on, does, done_stack, with_room, no_room, allowed, forbidden, unasked}
use Rattle.steps.proofs.Stacks.{length_newest, newest_put}
use Rattle.steps.specs.Walks.{newest}
use Rattle.std.proofs.lemmas.List.{length-reverse}
use Rattle.machine.specs.declared.parts.Entry.TheVariants.{Number}
use Rattle.steps.proofs.registers.Fetched.push.Goals as goal

pub returns-then-depth-stack : goal.returns-then-depth-stack
returns-then-depth-stack g c rest room =
    let stack = c.args.stack.now in
    let depth = c.args.depth in
    ends unasked
    (λ table true.
    let full : length stack ≤ length (newest depth stack) =
    omega (
      arith,
      length-reverse stack,
      ap length (ap (reverse) (take_all depth stack (omega arith))),
    ) in
    no_room _ _ _ _ full)

pub returns-in_err-verdict : goal.returns-in_err-verdict
returns-in_err-verdict g c rest room =
    let stack = c.args.stack.now in
    let depth = c.args.depth in
    let asks =
    asked (λ q. record q { a = c.args.number.now.label }) (Err c.in_err-verdict.field-0.0)
    c.request.ensures c.in_err-verdict.ensures in
    hands_on c.from_residual.ensures.1 (forbidden asks)
    (λ table true. with_room _ _ _ _ (omega (arith, length_newest depth stack (omega arith))) ∙ asks.holds table true _)

pub returns : goal.returns
returns g c rest room =
    let stack = c.args.stack.now in
    let depth = c.args.depth in
    let asks =
    asked (λ q. record q { a = c.args.number.now.label }) (Ok c.in_ok-verdict.verdict)
    c.request.ensures c.in_ok-verdict.ensures in
    let written = newest_put stack (depth + 1) depth refl refl (omega arith) in
    does c.next.ensures (allowed c.in_ok-verdict.verdict asks) (omega arith) room.commands
    (λ table true.
    done_stack
    (written ∙ ap (λ e. e ∷ newest depth stack) c.write_entry.ensures
    ∙ ap (λ v. Number v ∷ newest depth stack) c.relabelled.ensures)
    ∙ sym (with_room _ _ _ _ (omega (arith, length_newest depth stack (omega arith))) ∙ asks.holds table true _))
