-- How far the loop of `calls_said` has come.
use Rattle.std.proofs.Common.{map, take}
use Rattle.sheets.specs.Sheets.{SaysCalls, line_words}
use Rattle.sheets.proofs.reader.Reader.calls_said.Given as goal

-- the lines so far say the calls so far
abbrev pub invariant-loop-line : goal.invariant-loop-line
invariant-loop-line g l =
    SaysCalls g.L.Label.text (map line_words (take l.line-index l.lines)) l.calls.items
