-- One exchange more is made.
use Rattle.std.proofs.Common.{◌<◌, length, refl, arith}
use Rattle.compare.specs.Runs.{over}
use Rattle.compare.proofs.Exchanging.{made_more}
use Rattle.compare.proofs.plans.make_all.Goals as goal

pub loop-exchange-init : goal.loop-exchange-init
loop-exchange-init g c = (over, refl, refl)

pub loop-exchange-preserved : goal.loop-exchange-preserved
loop-exchange-preserved g c =
    let inside : c.loop-exchange.exchange-index < length c.loop-exchange.exchanges = omega arith in
    made_more g.L.Label.kind g.P.Policy _ c.loop-exchange.exchanges _ c.exchange-item.result
    c.make_on-site.new.self inside c.loop-exchange.invariant.2 c.loop-exchange.invariant.1
    c.loop-exchange.invariant.0 c.make_on-site.ensures
