-- A load, by whether there are a number and its cell and the policy allows it.
use Rattle.std.proofs.Common.{◌-◌, ◌∷◌, length, refl, sym, ap, ◌∙◌, arith, Ok, Err, length-set}
use Rattle.steps.specs.Operations.{placed, with_memory}
use Rattle.steps.proofs.Doing.{asked, used_hands_on, used_does, done_stack, allowed, forbidden, unasked}
use Rattle.steps.proofs.Stacks.{newest_put}
use Rattle.steps.specs.Walks.{newest}
use Rattle.machine.specs.declared.parts.Entry.TheVariants.{Number}
use Rattle.steps.proofs.registers.Fetched.load.Goals as goal

pub returns-in_err-a : goal.returns-in_err-a
returns-in_err-a g c rest room =
    used_hands_on (placed c.args.self 0) c.args.used.now (with_memory c.args.memory.now rest)
    c.from_residual.ensures.1 unasked (λ table true. c.in_err-a.ensures _)

pub returns-in_err-cell : goal.returns-in_err-cell
returns-in_err-cell g c rest room =
    used_hands_on (placed c.args.self 0) c.args.used.now (with_memory c.args.memory.now rest)
    c.from_residual-in_err-cell.ensures.1 unasked
    (λ table true. c.in_ok-a.ensures.1 _ ∙ c.in_err-cell.ensures _)

pub returns-in_err-verdict : goal.returns-in_err-verdict
returns-in_err-verdict g c rest room =
    let asks =
    asked (λ q. record q { a = c.in_ok-a.a.label; b = c.in_ok-cell.field-0.element.label })
    (Err c.in_err-verdict.field-0.0) c.request.ensures c.in_err-verdict.ensures in
    used_hands_on (placed c.args.self 0) c.args.used.now (with_memory c.args.memory.now rest)
    c.from_residual-in_err-verdict.ensures.1 (forbidden asks)
    (λ table true. c.in_ok-a.ensures.1 _ ∙ c.in_ok-cell.ensures.2 _ ∙ asks.holds table true _)

pub returns : goal.returns
returns g c rest room =
    let asks =
    asked (λ q. record q { a = c.in_ok-a.a.label; b = c.in_ok-cell.field-0.element.label })
    (Ok c.in_ok-verdict.verdict) c.request.ensures c.in_ok-verdict.ensures in
    let used = c.args.used.now in
    let n = length used in
    let a = c.in_ok-a.ensures in
    let written = newest_put used n (n - 1) refl (omega arith) (omega arith) in
    used_does (placed c.args.self 0) c.args.used.now (with_memory c.args.memory.now rest) _
    (with_memory c.args.memory.now rest) c.next.ensures (allowed c.in_ok-verdict.verdict asks)
    (length-set _ _ _) (omega arith) room.commands
    (λ table true.
    done_stack
    (written ∙ ap (λ e. e ∷ newest (n - 1) used) c.write_entry.ensures
    ∙ ap (λ v. Number v ∷ newest (n - 1) used) c.relabelled.ensures)
    ∙ sym (a.1 _ ∙ c.in_ok-cell.ensures.2 _ ∙ asks.holds table true _))
