-- The walk down from the top: one number more is passed, or the frame is found.
use Rattle.std.proofs.Common.{◌≡◌, ◌∷◌, length, sym, ap, ◌∙◌, arith}
use Rattle.machine.specs.Steps.{nearest_frame}
use Rattle.steps.specs.Walks.{newest}
use Rattle.steps.proofs.Stacks.{walks}
use Rattle.steps.proofs.walks.nearest_frame.Goals as goal

pub loop-index-preserved : goal.loop-index-preserved
loop-index-preserved g c =
    let used = c.args.used.now in
    let step = c.in-Some.ensures.steps in
    let rest = c.loop-index.index-iterator.iter.iter.rest.now in
    let left = c.next.new.self.iter.iter.rest.now in
    let at = walks used rest left c.in-Some.entry.now c.loop-index.invariant.rest_is step.1.0 in
    record {
      counted = step.0 ∙ c.loop-index.invariant.counted;
      rest_is = at.left_is;
      same =
          λ then. c.loop-index.invariant.same then
          ∙ ap (λ s. nearest_frame s then)
          (at.from_rest ∙ ap (λ e. e ∷ newest (length left) used) c.in_default.is);
    }

pub returns-in-Frame : goal.returns-in-Frame
returns-in-Frame g c =
    let used = c.args.used.now in
    let step = c.in-Some.ensures.steps in
    let rest = c.loop-index.index-iterator.iter.iter.rest.now in
    let left = c.next.new.self.iter.iter.rest.now in
    let at = walks used rest left c.in-Some.entry.now c.loop-index.invariant.rest_is step.1.0 in
    let index : c.in-Some.index ≡ length left = omega (arith, step.1.1, c.loop-index.invariant.counted) in (
      omega (arith, at.inside),
      λ then. c.loop-index.invariant.same then
          ∙ ap (λ s. nearest_frame s then)
          (at.from_rest ∙ ap (λ e. e ∷ newest (length left) used) c.in-Frame.is)
          ∙ ap (λ n. then c.in-Frame.element (newest n used)) (sym index),
    )

pub returns : goal.returns
returns g c then =
    c.loop-index.invariant.same then
    ∙ ap (λ n. nearest_frame (newest n c.args.used.now) then) c.in-None.ensures.steps.1.0
