-- The search for a command: over what is left of the log it finds what it finds over all of it.
use Rattle.std.proofs.Common.{◌≡◌, ◌+◌, drop}
use Rattle.machine.specs.Stations.{first_below as first_below_from}
use Rattle.station.proofs.commands.first_below.Given as goal

-- none of the commands so far is the one
abbrev pub invariant-loop-ahead : goal.invariant-loop-ahead
invariant-loop-ahead g l =
    first_below_from g.L.Label.kind l.clearance l.from l.rest
    ≡ first_below_from g.L.Label.kind l.clearance (l.from + l.ahead) (drop l.ahead l.rest)
