-- The walk for the nearest frame: what it has passed holds none.
use Rattle.std.proofs.Common.{◌≡◌, List, length, take}
use Rattle.machine.specs.Steps.{Outcome, nearest_frame}
use Rattle.machine.specs.declared.parts.Frame.{Frame as ReturnFrame}
use Rattle.machine.specs.declared.parts.Entry.{Entry}
use Rattle.steps.specs.Walks.{newest}
use Rattle.steps.proofs.walks.nearest_frame.Given as goal

abbrev pub invariant-loop-index : goal.invariant-loop-index
invariant-loop-index g l =
    let rest = l.index-iterator.iter.iter.rest.now in
    record {
      counted : l.index-iterator.iter.count ≡ 0;
      rest_is : rest ≡ take (length rest) l.used;
      same : (then : ReturnFrame g.row.L.Denot → List (Entry g.row.L.Denot) → Outcome g.row.L.Denot)
          → nearest_frame (newest (length l.used) l.used) then ≡ nearest_frame (newest (length rest) l.used) then;
    }
