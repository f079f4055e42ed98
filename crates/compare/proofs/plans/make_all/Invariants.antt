-- The exchanges before this one are made, and those from it on as they were.
use Rattle.std.proofs.Common.{◌≡◌, length, take, drop}
use Rattle.compare.specs.Runs.{Plays}
use Rattle.compare.proofs.plans.make_all.Given as goal

abbrev pub invariant-loop-exchange : goal.invariant-loop-exchange
invariant-loop-exchange g l =
    Plays g.L.Label.kind g.P.Policy l.fn.site (take l.exchange-index l.initial.exchanges)
    (take l.exchange-index l.exchanges) l.site
    × (drop l.exchange-index l.exchanges ≡ drop l.exchange-index l.initial.exchanges)
    × (length l.exchanges ≡ length l.initial.exchanges)
