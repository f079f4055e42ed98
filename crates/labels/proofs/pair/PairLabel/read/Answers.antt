-- Where a part cannot be read, the bytes begin with no pair's text.
use Rattle.labels.proofs.Texts.{no_left, no_right}
use Rattle.labels.proofs.pair.PairLabel.read.Goals as goal

pub returns-in_err-left : goal.returns-in_err-left
returns-in_err-left g c = rw c.from_residual.ensures (no_left _ _ _ c.in_err-left.ensures)

pub returns-in_err-right : goal.returns-in_err-right
returns-in_err-right g c =
    rw c.from_residual-in_err-right.ensures
    (no_right _ _ g.met.A.Label.unambiguous _ _ _ c.in_ok-left.ensures c.in_err-right.ensures)
