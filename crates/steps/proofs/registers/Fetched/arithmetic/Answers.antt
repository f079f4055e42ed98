-- Two numbers combined, by whether there are two and the policy allows it.
use Rattle.std.proofs.Common.{◌≡◌, ◌-◌, ◌∷◌, length, refl, sym, ap, ◌∙◌, arith, Ok, Err, w32, SFits, rules, length-set}
use Rattle.steps.specs.Operations.{placed}
use Rattle.steps.proofs.Doing.{asked, used_hands_on, used_does, done_stack, allowed, forbidden, unasked}
use Rattle.steps.proofs.Stacks.{newest_put}
use Rattle.steps.specs.Walks.{newest}
use Rattle.machine.specs.Steps.{◌at◌}
use Rattle.machine.specs.declared.parts.Entry.TheVariants.{Number}
use Rattle.std.proofs.lemmas.Int.{to_z-of_z}
use Rattle.steps.proofs.registers.Fetched.arithmetic.Goals as goal

pub returns-in_err-b : goal.returns-in_err-b
returns-in_err-b g c applied given rest room =
    used_hands_on (placed c.args.self 0) c.args.used.now rest c.from_residual.ensures.1 unasked
    (λ table true. c.in_err-b.ensures _)

pub returns-in_err-verdict : goal.returns-in_err-verdict
returns-in_err-verdict g c applied given rest room =
    let asks =
    asked (λ q. record q { a = c.in_ok-b.a.label; b = c.in_ok-b.b.label })
    (Err c.in_err-verdict.field-0.0) c.request.ensures c.in_err-verdict.ensures in
    used_hands_on (placed c.args.self 0) c.args.used.now rest c.from_residual-in_err-verdict.ensures.1 (forbidden asks)
    (λ table true. c.in_ok-b.ensures.1 _ ∙ asks.holds table true _)

pub returns : goal.returns
returns g c applied given rest room =
    let used = c.args.used.now in
    let n = length used in
    let two = c.in_ok-b.ensures in
    let asks =
    asked (λ q. record q { a = c.in_ok-b.a.label; b = c.in_ok-b.b.label })
    (Ok c.in_ok-verdict.verdict) c.request.ensures c.in_ok-verdict.ensures in
    let fits : SFits w32 c.combine.result = search rules in
    let fits_a : SFits w32 c.in_ok-b.a.value = search rules in
    let fits_b : SFits w32 c.in_ok-b.b.value = search rules in
    let gave =
    rw (
      to_z-of_z w32 c.in_ok-b.b.value fits_b,
      to_z-of_z w32 c.in_ok-b.a.value fits_a,
    ) at c.combine.ensures in
    let value =
    to_z-of_z w32 c.combine.result fits
    ∙ given c.in_ok-b.b.value c.in_ok-b.a.value c.combine.result fits_b fits_a gave in
    let under : n - 1 - 1 ≡ n - 2 = omega arith in
    let written = newest_put used (n - 1) (n - 1 - 1) refl (omega (arith, two.0)) (omega (arith, two.0)) in
    used_does (placed c.args.self 0) used rest _ rest c.next.ensures
    (allowed c.in_ok-verdict.verdict asks) (length-set _ _ _) (omega arith) room.commands
    (λ table true.
    done_stack
    (written ∙ ap (λ k. c.write_entry.new.entry ∷ newest k used) under
    ∙ ap (λ e. e ∷ newest (n - 2) used) c.write_entry.ensures
    ∙ ap (λ v. Number (v at c.in_ok-verdict.verdict.result) ∷ newest (n - 2) used) value)
    ∙ sym (two.1 _ ∙ asks.holds table true _))
