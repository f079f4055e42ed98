-- A return with a result due, by whether there is a number and the policy allows it.
use Rattle.std.proofs.Common.{◌+◌, ◌∷◌, refl, sym, ap, ◌∙◌, arith, Ok, Err, w64, SFits, rules, length-set}
use Rattle.steps.proofs.Doing.{asked, used_hands_on, used_does, done_stack, done_place, allowed, forbidden, unasked}
use Rattle.steps.proofs.Stacks.{newest_put}
use Rattle.steps.specs.Walks.{newest}
use Rattle.std.proofs.lemmas.Int.{to_z-of_z}
use Rattle.machine.specs.declared.parts.Entry.TheVariants.{Number}
use Rattle.steps.proofs.registers.Registers.return_number.Goals as goal

pub returns-in_err-a : goal.returns-in_err-a
returns-in_err-a g c rest room =
    used_hands_on c.args.self c.args.used.now rest c.from_residual.ensures.1 unasked
    (λ table true. c.in_err-a.ensures _)

pub returns-in_err-verdict : goal.returns-in_err-verdict
returns-in_err-verdict g c rest room =
    let asks =
    asked (λ q. record q { a = c.args.frame.label; b = c.in_ok-a.a.label })
    (Err c.in_err-verdict.field-0.0) c.request.ensures c.in_err-verdict.ensures in
    used_hands_on c.args.self c.args.used.now rest c.from_residual-in_err-verdict.ensures.1 (forbidden asks)
    (λ table true. c.in_ok-a.ensures.1 _ ∙ asks.holds table true _)

pub returns : goal.returns
returns g c rest room =
    let asks =
    asked (λ q. record q { a = c.args.frame.label; b = c.in_ok-a.a.label })
    (Ok c.in_ok-verdict.verdict) c.request.ensures c.in_ok-verdict.ensures in
    let fits : SFits w64 c.args.frame.place = search rules in
    let used = c.args.used.now in
    let index = c.args.index in
    let written = newest_put used (index + 1) index refl refl c.requires in
    used_does c.args.self c.args.used.now rest _ rest refl (allowed c.in_ok-verdict.verdict asks)
    (length-set _ _ _) (omega arith) room.commands
    (λ table true.
    done_place (to_z-of_z w64 c.args.frame.place fits)
    ∙ done_stack
    (written ∙ ap (λ e. e ∷ newest index used) c.write_entry.ensures
    ∙ ap (λ v. Number v ∷ newest index used) c.relabelled.ensures)
    ∙ sym (c.in_ok-a.ensures.1 _ ∙ asks.holds table true _))
