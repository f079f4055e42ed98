-- A go of a running station, on the parts as they lie in their vectors.
use Rattle.std.proofs.Common.{ap, ◌∙◌, length, refl}
use Rattle.machine.specs.Steps.{contents}
use Rattle.sites.specs.Sites.{held}
use Rattle.sites.proofs.Handing.{gone, given_back, unasked}
use Rattle.sites.proofs.Vectors.{held_with, as_long}
use Rattle.sites.proofs.lending.Parts.go.Goals as goal

pub returns-in-Ok-clause-hands : goal.returns-in-Ok-clause-hands
returns-in-Ok-clause-hands g c =
    let memories = c.go.auto.memory ∙ ap length c.as_mut_slice.ensures.value in
    let stacks = c.go.auto.stack ∙ ap length c.as_mut_slice-in-Running.ensures.value in
    let logs = c.go.auto.log ∙ ap length c.as_mut_slice-in-Running-2.ensures.value in
    let parts = c.args.self.now in
    let went =
    rw (
      c.as_slice.ensures.value,
      c.as_mut_slice.ensures.value,
      c.as_mut_slice-in-Running.ensures.value,
      c.as_mut_slice-in-Running-2.ensures.value,
      c.in-Ok.is,
    ) at c.go.ensures in
    rw (c.in-Running.is, held_with parts c.go.new.memory c.go.new.log c.go.new.stack memories stacks logs)
    (gone g.P.Policy _ _ g.L.Label.kind c.in-Running.running (held parts)
    (contents parts.program.items c.go.new.memory c.go.new.stack c.go.new.log) c.args.fuel
    c.in-Ok.field-0 c.state-state.result refl
    (as_long parts c.go.new.memory c.go.new.log c.go.new.stack memories stacks logs) went
    c.state-state.ensures)

pub returns-in-Ok-clause-unasked : goal.returns-in-Ok-clause-unasked
returns-in-Ok-clause-unasked g c idle =
    let went =
    rw (
      c.as_slice.ensures.value,
      c.as_mut_slice.ensures.value,
      c.as_mut_slice-in-Running.ensures.value,
      c.as_mut_slice-in-Running-2.ensures.value,
    ) at c.go.ensures in
    unasked g.P.Policy _ _ g.L.Label.kind c.in-Running.running (held c.args.self.now) _ c.args.fuel
    _ went (rw c.in-Running.is at idle)

pub returns-in-Err-clause-hands : goal.returns-in-Err-clause-hands
returns-in-Err-clause-hands g c =
    let memories = c.go.auto.memory ∙ ap length c.as_mut_slice.ensures.value in
    let stacks = c.go.auto.stack ∙ ap length c.as_mut_slice-in-Running.ensures.value in
    let logs = c.go.auto.log ∙ ap length c.as_mut_slice-in-Running-2.ensures.value in
    let parts = c.args.self.now in
    let went =
    rw (
      c.as_slice.ensures.value,
      c.as_mut_slice.ensures.value,
      c.as_mut_slice-in-Running.ensures.value,
      c.as_mut_slice-in-Running-2.ensures.value,
      c.in-Err.is,
    ) at c.go.ensures in
    rw (c.in-Running.is, held_with parts c.go.new.memory c.go.new.log c.go.new.stack memories stacks logs)
    (given_back g.P.Policy _ _ g.L.Label.kind c.in-Running.running (held parts) _ c.args.fuel c.in-Err.field-0 went)
