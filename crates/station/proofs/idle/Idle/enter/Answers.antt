-- An enter, by whether there is the cell.
use Rattle.std.proofs.Common.{Err, ap, ◌∙◌}
use Rattle.std.proofs.lemmas.Result.{err_from_is_err_and}
use Rattle.station.proofs.Cells.{none_to_enter, entered}
use Rattle.station.proofs.idle.Idle.enter.Goals as goal

pub returns-in_err-check_cell : goal.returns-in_err-check_cell
returns-in_err-check_cell g c =
    let handed_on =
    err_from_is_err_and c.from_residual-in_err-check_cell.result
    c.from_residual-in_err-check_cell.ensures.1 in
    none_to_enter g.L.Label.kind c.args.self.now c.args.memory.now c.args.cell
    c.in_ok-check_length.ensures c.args.number
    c.in_err-check_cell.ensures.0 (handed_on.1 ∙ ap Err (handed_on.2 ∙ c.in_err-check_cell.ensures.1))

pub returns : goal.returns
returns g c =
    entered g.L.Label.kind c.args.self.now c.args.memory.now c.args.cell
    c.in_ok-check_length.ensures c.args.number c.in_ok-check_cell.ensures
