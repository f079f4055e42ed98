-- The loop of a go: each turn of it does a step, or the go ends.
use Rattle.std.proofs.Common.{◌-◌, ◌∙◌, refl, sym, ap, ap₂, arith}
use Rattle.machine.specs.Steps.{contents, made_of, step}
use Rattle.steps.specs.Operations.{round}
use Rattle.station.specs.Turns.{ended}
use Rattle.station.proofs.Runs.{gone_to, ends, goes_on, rests, same_made, asked_on, asked_last, not_asked}
use Rattle.station.proofs.running.Running.run.Goals as goal

pub returns-in-Err-clause-runs : goal.returns-in-Err-clause-runs
returns-in-Err-clause-runs g c table true =
    let so_far = c.loop-left.invariant in
    let kind = g.L.Label.kind in
    let left = c.loop-left.left in
    let first = contents c.args.program.now c.args.memory.now c.args.stack.now c.args.log.now in
    let here = contents c.args.program.now c.loop-left.memory c.loop-left.stack c.loop-left.log in
    let then = contents c.args.program.now c.advance.new.memory c.advance.new.stack c.advance.new.log in
    let same = same_made first here refl c.loop-left.auto.memory c.loop-left.auto.stack c.loop-left.auto.log in
    let s = round c.loop-left.self.registers here in
    let stepped = c.in-Err.ensures.steps in
    let came =
    ap (λ setup. step kind table setup left s) (sym same)
    ∙ sym (stepped.comes_to table (so_far.still table true)) in
    ends kind (made_of first) table c.args.fuel left (round c.args.self.now.registers first) s
    c.in-Err.end (so_far.runs table true) came
    ∙ ap (λ s. gone_to (ended c.in-Err.end s) (c.args.fuel - left))
    (sym (ap₂ (λ st parts. round st.registers parts) c.in-Err.ensures.kept stepped.keeps))
    ∙ ap (λ st. gone_to st (c.args.fuel - left)) (sym (c.settle.ensures.settled then))

pub returns-in-Err-clause-asks : goal.returns-in-Err-clause-asks
returns-in-Err-clause-asks g c =
    asked_last g.P.Policy c.args.policy.now c.loop-left.policy c.advance.new.policy _
    c.loop-left.invariant.asks c.advance.ensures.steps.asks

pub loop-left-preserved : goal.loop-left-preserved
loop-left-preserved g c =
    let so_far = c.loop-left.invariant in
    let kind = g.L.Label.kind in
    let left = c.loop-left.left in
    let first = contents c.args.program.now c.args.memory.now c.args.stack.now c.args.log.now in
    let here = contents c.args.program.now c.loop-left.memory c.loop-left.stack c.loop-left.log in
    let then = contents c.args.program.now c.advance.new.memory c.advance.new.stack c.advance.new.log in
    let same = same_made first here refl c.loop-left.auto.memory c.loop-left.auto.stack c.loop-left.auto.log in
    let s = round c.loop-left.self.registers here in
    let stepped = c.in_default.ensures.steps in
    record {
      left = omega (arith, so_far.left);
      sizes = c.advance.ensures.sizes ∙ so_far.sizes;
      asks =
          asked_on g.P.Policy c.args.policy.now c.loop-left.policy c.advance.new.policy c.args.fuel
          left so_far.left c.loop-left-test.true so_far.asks c.advance.ensures.steps.asks;
      still = λ table true. c.advance.ensures.steps.still table (so_far.still table true);
      runs = λ table true.
          let came =
          ap (λ setup. step kind table setup left s) (sym same)
          ∙ sym (stepped.comes_to table (so_far.still table true)) in
          goes_on kind (made_of first) table c.args.fuel left
          (round c.args.self.now.registers first) s (round c.advance.new.self.registers then)
          (so_far.runs table true) so_far.left c.loop-left-test.true came;
    }

pub returns-clause-runs : goal.returns-clause-runs
returns-clause-runs g c table true =
    let so_far = c.loop-left.invariant in
    let kind = g.L.Label.kind in
    let first = contents c.args.program.now c.args.memory.now c.args.stack.now c.args.log.now in
    let here = contents c.args.program.now c.loop-left.memory c.loop-left.stack c.loop-left.log in
    let same = same_made first here refl c.loop-left.auto.memory c.loop-left.auto.stack c.loop-left.auto.log in
    let s = round c.loop-left.self.registers here in
    let came = ap (λ setup. step kind table setup 0 s) (sym same) ∙ c.step_without_fuel-end.ensures table here refl in
    rests kind (made_of first) table c.args.fuel c.loop-left.left
    (round c.args.self.now.registers first) s c.step_without_fuel-end.result
    (so_far.runs table true) (omega arith) came
    ∙ ap (λ st. gone_to st c.args.fuel) (sym (c.settle-2.ensures.settled here))

pub returns-clause-asks : goal.returns-clause-asks
returns-clause-asks g c =
    not_asked g.P.Policy c.args.policy.now c.loop-left.policy (c.args.fuel - c.loop-left.left)
    c.args.fuel (omega arith) c.loop-left.invariant.asks
