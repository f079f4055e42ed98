-- What is written so far: the numbers of the growers below the counter.
use Rattle.std.specs.Fmt.{HasWritten, IsPlainFormatter}
use Rattle.readings.specs.Growers.{named_below}
use Rattle.readings.proofs.growers.EachDisplay.fmt.Given as goal

abbrev pub invariant-loop-grower : goal.invariant-loop-grower
invariant-loop-grower g l =
    IsPlainFormatter l.initial.f
    → HasWritten g.W.Write.write_str_gives l.initial.f (named_below l.self.0 l.grower-counter) l.f
