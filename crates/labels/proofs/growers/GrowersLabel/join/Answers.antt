-- The union of the masks has the growers of both.
use Rattle.labels.proofs.Members.{union_has}
use Rattle.labels.proofs.growers.GrowersLabel.join.Goals as goal

pub returns-clause-union : goal.returns-clause-union
returns-clause-union c = union_has c.args.self c.args.other c.union.result c.union.ensures
