-- How far the loop of `filled` has come.
use Rattle.std.proofs.Common.{◌≡◌, replicate}
use Rattle.sheets.proofs.sheet.filled.Given as goal

-- as many are there as the counter says
abbrev pub invariant-loop : goal.invariant-loop
invariant-loop g l = l.all.items ≡ replicate l.counter l.value
