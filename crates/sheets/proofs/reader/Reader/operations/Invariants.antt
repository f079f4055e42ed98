-- How far the loop of `operations` has come.
use Rattle.std.proofs.Common.{map, take}
use Rattle.sheets.specs.Sheets.{SaysProgram, line_words}
use Rattle.sheets.proofs.reader.Reader.operations.Given as goal

-- the lines so far say the operations so far
abbrev pub invariant-loop-line : goal.invariant-loop-line
invariant-loop-line g l =
    SaysProgram g.L.Label.text (map line_words (take l.line-index l.lines)) l.program.items
