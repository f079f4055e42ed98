-- The loop of `memory_size` keeps nothing: it returns at the first line that it looks for.
use Rattle.sheets.proofs.reader.memory_size.Given as goal

abbrev pub invariant-loop-line : goal.invariant-loop-line
invariant-loop-line l = Unit {0}
