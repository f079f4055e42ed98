-- One more line of `calls_said`.
use Rattle.sheets.specs.Sheets.{line_words}
use Rattle.sheets.proofs.InOrder.{at_value, calls_next}
use Rattle.sheets.proofs.reader.Reader.calls_said.Goals as goal

pub loop-line-preserved : goal.loop-line-preserved
loop-line-preserved g c =
    let says =
    at_value c.call.result c.map_err.result _ _ _ c.map_err.ensures.cases c.in_ok-call.was
    c.call.ensures in
    calls_next g.L.Label.text line_words c.args.lines.now c.loop-line.line-index _
    c.loop-line-test.true c.loop-line.calls.items _ c.in_ok-call.call c.in_ok-push.ensures.items
    c.loop-line.invariant says
