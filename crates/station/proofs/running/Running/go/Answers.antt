-- A go: refused for a part, or run.
use Rattle.station.proofs.Going.{as_long, go_refused, go_ran}
use Rattle.station.proofs.running.Running.go.Goals as goal
use Rattle.std.proofs.Common.{◌∙◌}

pub returns-in-Err : goal.returns-in-Err
returns-in-Err g c =
    go_refused g.P.Policy g.L.Label.kind c.args.fuel c.args.self c.sizes_of.ensures c.in-Err.why
    c.in-Err.ensures

pub run-requires : goal.run-requires
run-requires g c = record { as_made = as_long c.args.self.sizes c.sizes_of.ensures c.in_default.ensures }

pub returns : goal.returns
returns g c =
    let runs = c.run.ensures in
    go_ran g.P.Policy g.L.Label.kind c.args.fuel c.args.self c.sizes_of.ensures c.run.result
    c.in_default.ensures runs.runs runs.still runs.sizes runs.asks
