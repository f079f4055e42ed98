-- How far the loop of `lines_of` has come.
use Rattle.std.proofs.Common.{◌≡◌, map}
use Rattle.sheets.specs.Sheets.{line_words, worded_lines}
use Rattle.sheets.proofs.lines.lines_of.Given as goal

-- the lines so far are those with words
abbrev pub invariant-loop-line : goal.invariant-loop-line
invariant-loop-line l = map line_words l.lines.items ≡ worded_lines (map (λ x. x.now) l.yielded)
