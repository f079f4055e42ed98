-- One more line of `operations`.
use Rattle.std.proofs.Common.{sym, subst}
use Rattle.sheets.specs.Sheets.{SaysProgram, line_words}
use Rattle.sheets.proofs.InOrder.{adds_more, at_ok, next_line}
use Rattle.sheets.proofs.reader.Reader.operations.Goals as goal

pub loop-line-preserved : goal.loop-line-preserved
loop-line-preserved g c =
    let text = g.L.Label.text in
    let more =
    next_line line_words c.args.lines.now c.loop-line.line-index _ c.loop-line-test.true in
    let adds =
    at_ok c.program_line.result c.map_err.result _ _ c.map_err.ensures.variant
    c.in_ok-map_err.was c.program_line.ensures in
    subst (λ ws. SaysProgram text ws c.program_line.new.program.items) (sym more)
    (adds_more text _ _ c.loop-line.program.items _ c.loop-line.invariant adds)
