-- How a running station stands, by the round that is rehearsed.
use Rattle.std.proofs.Common.{◌≤◌, length, ap, ◌∙◌, sym, subst, w64, SFits, rules}
use Rattle.std.proofs.lemmas.Int.{to_z-of_z}
use Rattle.machine.specs.Stations.{running}
use Rattle.sites.specs.Sites.{held}
use Rattle.steps.specs.Operations.{round}
use Rattle.boundary.proofs.Ends.{running_end}
use Rattle.boundary.proofs.plans.end_of.Goals as goal

pub returns-in_ok-stack-in-Some-clause-end : goal.returns-in_ok-stack-in-Some-clause-end
returns-in_ok-stack-in-Some-clause-end g c =
    let r = c.registers-registers.result in
    let parts = c.in-Some.round.parts in
    let fits : SFits w64 r.pc = search rules in
    let rehearses = rw c.in-Some.is at c.in_ok-round.ensures in
    let is =
    rehearses.1
    ∙ ap (λ q. running (round q (held parts)))
    (sym c.registers-registers.ensures) in
    let deep =
    subst (λ q. q.depth ≤ length parts.stack.items) (sym c.registers-registers.ensures)
    c.in-Some.round.stack_holds in
    running_end g.L.Coded.code c.args.site.now.sited.station r (held parts)
    c.commands.result.now _ c.code.result is deep c.commands.ensures
    (to_z-of_z w64 r.pc fits) c.code.ensures
