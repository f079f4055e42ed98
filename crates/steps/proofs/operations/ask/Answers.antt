-- The policy is asked once, and its answer is handed on.
use Rattle.steps.proofs.Doing.{asks_once}
use Rattle.steps.proofs.operations.ask.Goals as goal

pub returns : goal.returns
returns g c = asks_once c.rule.result c.ok_or.result c.ok_or.ensures.value c.rule.ensures.obeys c.rule.ensures.asked
