-- Whether two calls of lists are alike.
use Rattle.std.proofs.Common.{refl, sym, ◌∙◌}
use Rattle.machine.specs.Lists.{none, more}
use Rattle.machine.specs.Observer.{same_start, alike_enter}
use Rattle.compare.proofs.Likeness.{entered_alike, neither}
use Rattle.compare.proofs.comparers.InputsComparerExchange.alike.Goals as goal

pub returns-in-Start-Start : goal.returns-in-Start-Start
returns-in-Start-Start g c = rw (c.in-Start-Start.is-0, c.in-Start-Start.is-1) (λ _. more same_start none, λ _. refl)

pub returns-then-cell-other_cell : goal.returns-then-cell-other_cell
returns-then-cell-other_cell g c =
    rw (c.in-Enter-Enter.is-0, c.in-Enter-Enter.is-1, c.if-cell-other_cell.true) (
      λ is. more (alike_enter (c.are_alike.ensures.0 is)) none,
      λ alike. c.are_alike.ensures.1 (entered_alike g.L.Label.kind c.args.self.now.level _ _ _ _ alike),
    )

pub returns-then-not-is_input : goal.returns-then-not-is_input
returns-then-not-is_input g c =
    neither g.L.Label.kind c.args.self.now.level _ _
    (sym c.is_input.ensures ∙ c.if-not-is_input.true) _ c.is_input-then-not-is_input.ensures
