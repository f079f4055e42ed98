-- One step of a go: an end is handed on.
use Rattle.std.proofs.lemmas.Result.{err_from_is_err_and}
use Rattle.station.proofs.running.Running.advance.Goals as goal

pub returns-in_err-registers-clause-steps : goal.returns-in_err-registers-clause-steps
returns-in_err-registers-clause-steps g c =
    let handed_on = err_from_is_err_and c.from_residual.result c.from_residual.ensures.1 in
    let stepped = rw c.in_err-registers.was at c.step.ensures.steps in
    rw (handed_on.1, handed_on.2) stepped
