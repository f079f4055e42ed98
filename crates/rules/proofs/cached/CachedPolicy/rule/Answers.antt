-- The clause on asking, where the request is the remembered one.
use Rattle.rules.proofs.Hits.{recalled}
use Rattle.rules.proofs.cached.CachedPolicy.rule.Goals as goal

pub returns-in-Some-clause-asked : goal.returns-in-Some-clause-asked
returns-in-Some-clause-asked g c =
    let same = c.same_as.ensures.0 c.if-same_as.true in
    recalled c.args.self.now c.in-Some.memory c.args.request c.in-Some.is same
