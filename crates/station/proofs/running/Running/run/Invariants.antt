-- The loop of a go.
use Rattle.std.proofs.Common.{◌≡◌, ◌-◌, ◌≤◌}
use Rattle.rules.specs.Tables.{Table}
use Rattle.machine.specs.Stations.{run_steps}
use Rattle.machine.specs.Steps.{contents, made_of}
use Rattle.steps.specs.Operations.{round, AtMost, StaysTrue}
use Rattle.station.proofs.Runs.{after_more}
use Rattle.station.proofs.running.Running.run.Given as goal

-- The steps so far, and those with the fuel left, are the steps of the go.
abbrev pub invariant-loop-left : goal.invariant-loop-left
invariant-loop-left g l = record {
  left : l.left ≤ l.fn.fuel;
  sizes : l.self.sizes ≡ l.fn.self.sizes;
  asks : AtMost g.P.Policy (l.fn.fuel - l.left) l.fn.policy l.policy;
  still : StaysTrue g.P.Policy l.fn.policy l.policy;
  runs : (table : Table g.row.L.Denot) → g.P.Policy.faithful l.fn.policy table
      → run_steps g.L.Label.kind (made_of (contents l.program l.fn.memory l.fn.stack l.fn.log))
      table l.fn.fuel
      (round l.fn.self.registers (contents l.program l.fn.memory l.fn.stack l.fn.log))
      ≡ after_more (l.fn.fuel - l.left)
      (run_steps g.L.Label.kind (made_of (contents l.program l.fn.memory l.fn.stack l.fn.log))
      table l.left (round l.self.registers (contents l.program l.memory l.stack l.log)));
}

abbrev pub decreases-loop-left : goal.decreases-loop-left
decreases-loop-left g l = l.left
