-- How far the loop of `settings` has come.
use Rattle.std.proofs.Common.{map, take}
use Rattle.sheets.specs.Sheets.{line_words}
use Rattle.sheets.proofs.Given.{AllSaid}
use Rattle.sheets.proofs.reader.Reader.settings.Given as goal

-- what was given is what the lines so far say, and the memory has the size that a line gives
abbrev pub invariant-loop-line : goal.invariant-loop-line
invariant-loop-line g l =
    AllSaid g.L.Label.text l.memory (map line_words (take l.line-index l.lines)) l.given
