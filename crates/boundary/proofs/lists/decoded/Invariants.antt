-- How far the loop of `decoded` has come.
use Rattle.std.proofs.Common.{take}
use Rattle.boundary.specs.Parts.{CodesEach}
use Rattle.boundary.proofs.lists.decoded.Given as goal

-- What was decoded is what the codes so far code.
abbrev pub invariant-loop-code : goal.invariant-loop-code
invariant-loop-code g l = CodesEach g.C.Codes.codes (take l.code-index l.codes) l.all.items
