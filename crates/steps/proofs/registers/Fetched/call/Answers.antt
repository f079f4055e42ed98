-- A call, by whether there are enough numbers and the policy allows it.
use Rattle.std.proofs.Common.{◌≡◌, ◌-◌, ◌<◌, ◌∷◌, ◌++◌, length, take, drop, ℤ, pos, ◌+ℤ◌, sym}
use Rattle.std.proofs.Common.{ap, ◌∙◌, arith, Ok, Err, w32, w64, SFits, to_z, of_z, rules}
use Rattle.steps.specs.Operations.{placed}
use Rattle.steps.proofs.Doing.{asked, used_ends, used_hands_on, used_does}
use Rattle.steps.proofs.Doing.{done_stack, done_place, allowed, forbidden, unasked}
use Rattle.steps.proofs.Stacks.{newest_first, length_newest}
use Rattle.steps.specs.Walks.{newest, numbers_on_top}
use Rattle.machine.specs.declared.parts.Entry.{Entry}
use Rattle.machine.specs.declared.parts.Entry.TheVariants.{Frame}
use Rattle.std.proofs.lemmas.Int.{ints, to_z-of_z}
use Rattle.steps.proofs.Arguments.{takes_all, takes_too_many, taken_onto, numbers_within, enough_numbers}
use Rattle.std.proofs.lemmas.Bool.{leb-false}
use Rattle.steps.proofs.registers.Fetched.call.Goals as goal

pub returns-in_err-a : goal.returns-in_err-a
returns-in_err-a g c rest room =
    used_hands_on (placed c.args.self 0) c.args.used.now rest c.from_residual.ensures.1 unasked
    (λ table true. c.in_err-a.ensures _)

pub returns-then-not-has_numbers : goal.returns-then-not-has_numbers
returns-then-not-has_numbers g c rest room =
    let used = c.args.used.now in
    let n = length used in
    let below = newest (n - 1) used in
    let counted = leb-false c.from-arguments.result _ (sym c.if-not-has_numbers.ensures) in
    let few : numbers_on_top below < c.args.count =
    omega (arith, ap numbers_on_top (newest_first used (n - 1) (omega arith))) in
    used_ends (placed c.args.self 0) used rest unasked
    (λ table true. c.in_ok-a.ensures.1 _ ∙ takes_too_many c.args.count below _ few)

pub returns-in_err-verdict : goal.returns-in_err-verdict
returns-in_err-verdict g c rest room =
    let used = c.args.used.now in
    let n = length used in
    let below = newest (n - 1) used in
    let enough =
    enough_numbers used (n - 1) c.from-arguments.result c.args.count (omega arith)
    c.from-arguments.ensures c.if-not-has_numbers.ensures in
    let asks =
    asked (λ q. record q { a = c.in_ok-a.a.label }) (Err c.in_err-verdict.field-0.0)
    c.request.ensures c.in_err-verdict.ensures in
    used_hands_on (placed c.args.self 0) used rest c.from_residual-in_err-verdict.ensures.1 (forbidden asks)
    (λ table true. c.in_ok-a.ensures.1 _ ∙ takes_all c.args.count below _ enough ∙ asks.holds table true _)

pub insert_under-requires : goal.insert_under-requires
insert_under-requires g c =
    let a = c.in_ok-a.ensures in
    let used = c.args.used.now in
    let n = length used in
    let below = newest (n - 1) used in
    let enough =
    enough_numbers used (n - 1) c.from-arguments.result c.args.count (omega arith)
    c.from-arguments.ensures c.if-not-has_numbers.ensures in
    omega (arith, a.0, numbers_within below, length_newest (n - 1) used (omega arith))

pub returns : goal.returns
returns g c rest room =
    let a = c.in_ok-a.ensures in
    let used = c.args.used.now in
    let n = length used in
    let below = newest (n - 1) used in
    let enough =
    enough_numbers used (n - 1) c.from-arguments.result c.args.count (omega arith)
    c.from-arguments.ensures c.if-not-has_numbers.ensures in
    let asks =
    asked (λ q. record q { a = c.in_ok-a.a.label }) (Ok c.in_ok-verdict.verdict)
    c.request.ensures c.in_ok-verdict.ensures in
    let fits : SFits w32 c.in_ok-a.a.value = search rules in
    let place : to_z w64 (of_z w64 c.from.result) ≡ c.in_ok-a.a.value = omega (arith, ints) in
    let fits_next : SFits w64 c.next.result = search rules in
    let next = to_z-of_z w64 c.next.result fits_next ∙ c.next.ensures in
    let frame : ℤ → Entry g.row.L.Denot =
    λ place.
    Frame
    (record { place = place; due = c.args.due; label = c.in_ok-verdict.verdict.result }) in
    let inserted =
    c.insert_under.ensures
    ∙ ap (λ n. take n below ++ frame (to_z w64 (of_z w64 c.next.result)) ∷ drop n below) c.from-arguments.ensures
    ∙ ap (λ place. take c.args.count below ++ frame place ∷ drop c.args.count below) next
    ∙ taken_onto c.args.count below (frame (c.args.self.pc.number +ℤ pos 1)) enough in
    used_does (placed c.args.self 0) used rest _ rest c.goto.ensures
    (allowed c.in_ok-verdict.verdict asks) (omega arith) (omega arith) room.commands
    (λ table true.
    done_place place ∙ done_stack inserted
    ∙ sym (a.1 _ ∙ takes_all c.args.count below _ enough ∙ asks.holds table true _))
