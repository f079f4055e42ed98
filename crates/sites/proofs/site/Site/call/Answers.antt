-- A call on a site is lent the site's own parts.
use Rattle.std.proofs.Common.{inl}
use Rattle.sites.proofs.site.Site.call.Goals as goal

pub returns-clause-does : goal.returns-clause-does
returns-clause-does g c = rw (← c.self.view_is) (c.lend-station.ensures.hands.lends c.self.invariant).does

pub returns-clause-still : goal.returns-clause-still
returns-clause-still g c = rw (← c.self.view_is) c.lend-station.ensures.still

pub returns-clause-unasked : goal.returns-clause-unasked
returns-clause-unasked g c never =
    let no_asking = rw (← c.self.view_is) at never in
    rw (← c.self.view_is) (c.lend-station.ensures.unasked (inl no_asking))
