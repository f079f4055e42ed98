-- An operation, by which it is.
use Rattle.std.proofs.Common.{◌++◌, refl, sym, ap, ◌∙◌, rules, w32, w64, SFits}
use Rattle.std.proofs.lemmas.Int.{to_z-of_z, wrapping_add_is, wrapping_sub_is}
use Rattle.machine.specs.Steps.{contents, made_of, sum, difference, is_less}
use Rattle.machine.specs.declared.parts.Operation.TheVariants.{Bnz}
use Rattle.steps.proofs.Doing.{ends, unasked}
use Rattle.steps.proofs.Stepping.{found_as}
use Rattle.steps.proofs.registers.Registers.operate.Goals as goal

pub returns-in-Halt : goal.returns-in-Halt
returns-in-Halt g c rest in_use =
    let parts =
    contents rest.program c.args.memory.now
    (c.split_at_mut-used.result.0.now ++ c.split_at_mut-used.result.1.now) c.args.log.now in
    found_as g.L.Label.kind c.args.self rest c.args.memory.now c.args.log.now c.split_at_mut-used.ensures.value in_use
    c.in-Halt.is refl refl (λ held. ends unasked (λ table true. c.halted.ensures table (made_of parts) parts))

pub returns-in-Push : goal.returns-in-Push
returns-in-Push g c rest in_use =
    let fits : SFits w64 c.args.self.pc = search rules in
    found_as g.L.Label.kind c.args.self rest c.args.memory.now c.args.log.now c.split_at_mut-used.ensures.value in_use
    c.in-Push.number-1-own.given.1 (to_z-of_z w64 c.args.self.pc fits) refl
    (λ held.
    c.push.ensures
    (contents rest.program c.args.memory.now
    (c.split_at_mut-used.result.0.now ++ c.split_at_mut-used.result.1.now) c.args.log.now)
    held)

pub returns-in-Pop : goal.returns-in-Pop
returns-in-Pop g c rest in_use =
    let fits : SFits w64 c.args.self.pc = search rules in
    found_as g.L.Label.kind c.args.self rest c.args.memory.now c.args.log.now c.split_at_mut-used.ensures.value in_use
    c.in-Pop.is (to_z-of_z w64 c.args.self.pc fits) c.split_at_mut-used.ensures.front_len
    (λ held.
    c.pop.ensures
    (contents rest.program c.args.memory.now c.split_at_mut-used.result.1.now c.args.log.now)
    held)

pub returns-in-Noop : goal.returns-in-Noop
returns-in-Noop g c rest in_use =
    let fits : SFits w64 c.args.self.pc = search rules in
    found_as g.L.Label.kind c.args.self rest c.args.memory.now c.args.log.now c.split_at_mut-used.ensures.value in_use
    c.in-Noop.is (to_z-of_z w64 c.args.self.pc fits) refl
    (λ held.
    c.noop.ensures
    (contents rest.program c.args.memory.now
    (c.split_at_mut-used.result.0.now ++ c.split_at_mut-used.result.1.now) c.args.log.now)
    held)

pub returns-in-Add : goal.returns-in-Add
returns-in-Add g c rest in_use =
    let fits : SFits w64 c.args.self.pc = search rules in
    found_as g.L.Label.kind c.args.self rest c.args.memory.now c.args.log.now c.split_at_mut-used.ensures.value in_use
    c.in-Add.is (to_z-of_z w64 c.args.self.pc fits) c.split_at_mut-used.ensures.front_len
    (λ held.
    c.arithmetic.ensures sum
    (λ b a r fits_b fits_a gave. let is = wrapping_add_is w32 b a fits_b fits_a in search rules)
    (contents rest.program c.args.memory.now c.split_at_mut-used.result.1.now c.args.log.now)
    held)

pub returns-in-Sub : goal.returns-in-Sub
returns-in-Sub g c rest in_use =
    let fits : SFits w64 c.args.self.pc = search rules in
    found_as g.L.Label.kind c.args.self rest c.args.memory.now c.args.log.now c.split_at_mut-used.ensures.value in_use
    c.in-Sub.is (to_z-of_z w64 c.args.self.pc fits) c.split_at_mut-used.ensures.front_len
    (λ held.
    c.arithmetic-in-Sub.ensures difference
    (λ b a r fits_b fits_a gave. let is = wrapping_sub_is w32 b a fits_b fits_a in search rules)
    (contents rest.program c.args.memory.now c.split_at_mut-used.result.1.now c.args.log.now)
    held)

pub returns-in-Less : goal.returns-in-Less
returns-in-Less g c rest in_use =
    let fits : SFits w64 c.args.self.pc = search rules in
    found_as g.L.Label.kind c.args.self rest c.args.memory.now c.args.log.now c.split_at_mut-used.ensures.value in_use
    c.in-Less.is (to_z-of_z w64 c.args.self.pc fits) c.split_at_mut-used.ensures.front_len
    (λ held.
    c.arithmetic-in-Less.ensures is_less (λ b a r fits_b fits_a gave. search rules)
    (contents rest.program c.args.memory.now c.split_at_mut-used.result.1.now c.args.log.now)
    held)

pub returns-in-Load : goal.returns-in-Load
returns-in-Load g c rest in_use =
    let fits : SFits w64 c.args.self.pc = search rules in
    found_as g.L.Label.kind c.args.self rest c.args.memory.now c.args.log.now c.split_at_mut-used.ensures.value in_use
    c.in-Load.is (to_z-of_z w64 c.args.self.pc fits) c.split_at_mut-used.ensures.front_len
    (λ held.
    c.load.ensures
    (contents rest.program c.args.memory.now c.split_at_mut-used.result.1.now c.args.log.now)
    held)

pub returns-in-Store : goal.returns-in-Store
returns-in-Store g c rest in_use =
    let fits : SFits w64 c.args.self.pc = search rules in
    found_as g.L.Label.kind c.args.self rest c.args.memory.now c.args.log.now c.split_at_mut-used.ensures.value in_use
    c.in-Store.is (to_z-of_z w64 c.args.self.pc fits) c.split_at_mut-used.ensures.front_len
    (λ held.
    c.store.ensures
    (contents rest.program c.args.memory.now c.split_at_mut-used.result.1.now c.args.log.now)
    held)

pub returns-in-Jump : goal.returns-in-Jump
returns-in-Jump g c rest in_use =
    found_as g.L.Label.kind c.args.self rest c.args.memory.now c.args.log.now c.split_at_mut-used.ensures.value in_use
    c.in-Jump.is (refl) c.split_at_mut-used.ensures.front_len
    (λ held.
    c.jump.ensures
    (contents rest.program c.args.memory.now c.split_at_mut-used.result.1.now c.args.log.now)
    held)

pub returns-in-Bnz : goal.returns-in-Bnz
returns-in-Bnz g c rest in_use =
    let fits : SFits w64 c.args.self.pc = search rules in
    let fits_by : SFits w32 c.in-Bnz.by = search rules in
    found_as g.L.Label.kind c.args.self rest c.args.memory.now c.args.log.now c.split_at_mut-used.ensures.value in_use
    (c.in-Bnz.is ∙ ap Bnz (sym (to_z-of_z w32 c.in-Bnz.by fits_by)))
    (to_z-of_z w64 c.args.self.pc fits) c.split_at_mut-used.ensures.front_len
    (λ held.
    c.bnz.ensures
    (contents rest.program c.args.memory.now c.split_at_mut-used.result.1.now c.args.log.now)
    held)

pub returns-in-Call : goal.returns-in-Call
returns-in-Call g c rest in_use =
    let fits : SFits w64 c.args.self.pc = search rules in
    found_as g.L.Label.kind c.args.self rest c.args.memory.now c.args.log.now c.split_at_mut-used.ensures.value in_use
    c.in-Call.is (to_z-of_z w64 c.args.self.pc fits) c.split_at_mut-used.ensures.front_len
    (λ held.
    c.call.ensures
    (contents rest.program c.args.memory.now c.split_at_mut-used.result.1.now c.args.log.now)
    held)

pub returns-in-Return : goal.returns-in-Return
returns-in-Return g c rest in_use =
    found_as g.L.Label.kind c.args.self rest c.args.memory.now c.args.log.now c.split_at_mut-used.ensures.value in_use
    c.in-Return.is (refl) c.split_at_mut-used.ensures.front_len
    (λ held.
    c.return_to_frame.ensures
    (contents rest.program c.args.memory.now c.split_at_mut-used.result.1.now c.args.log.now)
    held)

pub returns-in-Output : goal.returns-in-Output
returns-in-Output g c rest in_use =
    let fits : SFits w64 c.args.self.pc = search rules in
    found_as g.L.Label.kind c.args.self rest c.args.memory.now c.args.log.now c.split_at_mut-used.ensures.value in_use
    c.in-Output.is (to_z-of_z w64 c.args.self.pc fits) c.split_at_mut-used.ensures.front_len
    (λ held.
    c.output.ensures
    (contents rest.program c.args.memory.now c.split_at_mut-used.result.1.now c.args.log.now)
    held)
