-- What of a log is in use, and what a station keeps of its parts.
use Rattle.std.specs.Prelude.{List, take}
use Rattle.machine.specs.Steps.{Kept, Contents}
use Rattle.machine.specs.declared.parts.Labelled.{Labelled}
use Rattle.steps.specs.declared.window.Window.{Window}

module _ {L : Type 0} where
  -- the commands in a window over a log, the oldest first
  abbrev pub logged : Window → List (Labelled L) → List (Labelled L)
  logged window log = take window.count log

  -- the memory whole, and of the log the commands in the window
  abbrev pub kept : Window → Contents L → Kept L
  kept window parts = record { memory = parts.memory; commands = logged window parts.log }
