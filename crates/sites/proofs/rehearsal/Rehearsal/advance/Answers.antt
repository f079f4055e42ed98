-- A step on the parts as they lie in their vectors.
use Rattle.std.proofs.Common.{◌∙◌, ap, length}
use Rattle.std.proofs.lemmas.Result.{err_from_is_err_and}
use Rattle.sites.proofs.Vectors.{held_with}
use Rattle.sites.proofs.rehearsal.Rehearsal.advance.Goals as goal

pub returns-in_err-registers-clause-steps : goal.returns-in_err-registers-clause-steps
returns-in_err-registers-clause-steps g c =
    let memories = c.step.auto.memory ∙ ap length c.as_mut_slice.ensures.value in
    let stacks = c.step.auto.stack ∙ ap length c.as_mut_slice-2.ensures.value in
    let logs = c.step.auto.log ∙ ap length c.as_mut_slice-3.ensures.value in
    let handed_on = err_from_is_err_and c.from_residual.result c.from_residual.ensures.1 in
    let stepped =
    rw (
      c.as_slice.ensures.value,
      c.as_mut_slice.ensures.value,
      c.as_mut_slice-2.ensures.value,
      c.as_mut_slice-3.ensures.value,
      c.in_err-registers.was,
    ) at c.step.ensures.steps in
    rw (
      held_with c.args.self.now.parts c.step.new.memory c.step.new.log c.step.new.stack memories
          stacks logs,
      handed_on.1,
      handed_on.2,
    )
    stepped

pub returns-clause-steps : goal.returns-clause-steps
returns-clause-steps g c =
    let memories = c.step.auto.memory ∙ ap length c.as_mut_slice.ensures.value in
    let stacks = c.step.auto.stack ∙ ap length c.as_mut_slice-2.ensures.value in
    let logs = c.step.auto.log ∙ ap length c.as_mut_slice-3.ensures.value in
    let stepped =
    rw (
      c.as_slice.ensures.value,
      c.as_mut_slice.ensures.value,
      c.as_mut_slice-2.ensures.value,
      c.as_mut_slice-3.ensures.value,
      c.in_ok-registers.was,
    ) at c.step.ensures.steps in
    rw (held_with c.args.self.now.parts c.step.new.memory c.step.new.log c.step.new.stack memories stacks logs) stepped
