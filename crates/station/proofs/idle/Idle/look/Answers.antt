-- A look, by whether there is the cell and who may see it.
use Rattle.std.proofs.Common.{Err, ap, ◌∙◌}
use Rattle.std.proofs.lemmas.Result.{err_from_is_err_and}
use Rattle.station.proofs.Cells.{none_to_see, shown, hidden}
use Rattle.station.proofs.idle.Idle.look.Goals as goal

pub returns-in_err-check_cell : goal.returns-in_err-check_cell
returns-in_err-check_cell g c =
    let handed_on =
    err_from_is_err_and c.from_residual-in_err-check_cell.result
    c.from_residual-in_err-check_cell.ensures.1 in
    none_to_see g.L.Label.kind c.args.self.now c.args.memory.now c.args.cell
    c.in_ok-check_length.ensures c.args.clearance
    c.in_err-check_cell.ensures.0 (handed_on.1 ∙ ap Err (handed_on.2 ∙ c.in_err-check_cell.ensures.1))

pub returns-then-flows_to : goal.returns-then-flows_to
returns-then-flows_to g c =
    shown g.L.Label.kind c.args.self.now c.args.memory.now c.args.cell c.in_ok-check_length.ensures
    c.args.clearance c.index-memory-cell.result
    c.in_ok-check_cell.ensures c.index-memory-cell.is c.if-flows_to.ensures

pub returns-else-flows_to : goal.returns-else-flows_to
returns-else-flows_to g c =
    hidden g.L.Label.kind c.args.self.now c.args.memory.now c.args.cell c.in_ok-check_length.ensures
    c.args.clearance c.index-memory-cell.result
    c.in_ok-check_cell.ensures c.index-memory-cell.is c.if-flows_to.ensures
