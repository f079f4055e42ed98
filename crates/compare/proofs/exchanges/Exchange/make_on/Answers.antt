-- The call is lent the station's own parts, or others'.
use Rattle.compare.proofs.Exchanging.{own_exchanged, others_exchanged}
use Rattle.compare.proofs.exchanges.Exchange.make_on.Goals as goal
use Rattle.compare.proofs.exchanges.Exchange.make_on.Goals.{in-Own, in-Others}

pub returns : goal.returns
returns g c = elim c.match-self.branch [
  | in-Own w ↦ rw (w.self-is, w.site-is)
      (own_exchanged g.L.Label.kind g.P.Policy c.args.site c.args.self.now _ _ w.in-Own.is w.call.ensures.does
      w.call.ensures.still w.call.ensures.unasked)
  | in-Others w ↦ rw (w.self-is, w.site-is)
      (others_exchanged g.L.Label.kind g.P.Policy c.args.site c.args.self.now _ _ _ _ w.in-Others.is
      w.call_with.ensures.refuses w.call_with.ensures.untouched w.call_with.ensures.policy)
]
