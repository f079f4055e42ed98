-- The test of the masks is inclusion.
use Rattle.labels.proofs.Members.{inclusion}
use Rattle.labels.proofs.growers.GrowersLabel.flows_to.Goals as goal

pub returns-clause-inclusion : goal.returns-clause-inclusion
returns-clause-inclusion c = rw c.included.ensures (inclusion c.args.self c.args.other)
