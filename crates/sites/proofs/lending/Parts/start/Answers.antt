-- A start of an idle station.
use Rattle.sites.specs.Sites.{held}
use Rattle.sites.proofs.Handing.{started}
use Rattle.sites.proofs.lending.Parts.start.Goals as goal

pub returns-in-Idle : goal.returns-in-Idle
returns-in-Idle g c =
    rw c.in-Idle.is
    (started g.L.Label.kind c.in-Idle.idle (held c.args.self.now) c.start.result
    c.start.ensures.starts c.start.ensures.sizes)
