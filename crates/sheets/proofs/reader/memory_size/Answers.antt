-- The line at which `memory_size` returns is one of the lines.
use Rattle.std.specs.Prelude.{codes}
use Rattle.sheets.specs.Lines.{SaysCount}
use Rattle.sheets.specs.Sheets.{line_words}
use Rattle.sheets.proofs.Given.{some_at}
use Rattle.sheets.proofs.reader.memory_size.Goals as goal

pub returns-in-Ok-Memory : goal.returns-in-Ok-Memory
returns-in-Ok-Memory c =
    some_at line_words c.args.lines.now c.loop-line.line-index _
    (λ line. SaysCount 65535 line (codes "memory") c.in-Ok-Memory.count) c.loop-line-test.true
    (rw c.in-Ok-Memory.field-0-is at c.in-Ok-Memory.ensures)
