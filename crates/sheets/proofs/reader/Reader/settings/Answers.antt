-- One more line of `settings`, and what they come to together.
use Rattle.std.proofs.Common.{map, subst, sym}
use Rattle.std.proofs.lemmas.List.{take_all}
use Rattle.std.proofs.lemmas.Result.{IfOk-weaker}
use Rattle.sheets.specs.Sheets.{line_words}
use Rattle.sheets.specs.Settings.{FillsIn, SaysSettings}
use Rattle.sheets.proofs.Given.{AllSaid, all_more, all_settled, passed_on}
use Rattle.sheets.proofs.InOrder.{at_ok, next_line}
use Rattle.sheets.proofs.reader.Reader.settings.Goals as goal

pub returns : goal.returns
returns g c =
    let text = g.L.Label.text in
    let bottom = g.L.Label.kind.bottom in
    let ws = map line_words c.args.lines.now in
    let said =
    subst (λ ls. AllSaid text c.memory_size-memory.result (map line_words ls) c.loop-line.given)
    (take_all c.loop-line.line-index c.args.lines.now c.loop-line-test.false)
    c.loop-line.invariant in
    passed_on c.settled.result c.map_err-2.result _ _ c.map_err-2.ensures.cases
    (IfOk-weaker c.settled.result (FillsIn bottom c.memory_size-memory.result c.loop-line.given)
    (λ s. SaysSettings text bottom ws s.memory.items s.stack s.log)
    (λ s settles.
    all_settled text bottom c.memory_size-memory.result ws c.loop-line.given said
    c.memory_size-memory.ensures s settles) c.settled.ensures)

pub loop-line-preserved : goal.loop-line-preserved
loop-line-preserved g c =
    let text = g.L.Label.text in
    let memory = c.memory_size-memory.result in
    let more =
    next_line line_words c.args.lines.now c.loop-line.line-index _ c.loop-line-test.true in
    let adds =
    at_ok c.setting.result c.map_err.result _ _ c.map_err.ensures.variant c.in_ok-map_err.was
    c.setting.ensures in
    subst (λ ws. AllSaid text memory ws c.setting.new.given) (sym more)
    (all_more text memory _ _ c.loop-line.given _ c.loop-line.invariant adds)
