-- A set admits the grower that it names.
use Rattle.std.proofs.Common.{◌∙◌}
use Rattle.readings.proofs.Alone.{alone_admitted}
use Rattle.readings.proofs.growers.GrowersReadings.admits.Goals as goal

pub returns-clause-admitted : goal.returns-clause-admitted
returns-clause-admitted c = c.names.ensures.names ∙ alone_admitted c.args.source c.args.self
