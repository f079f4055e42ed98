-- What the lines of a text give, its text gives.
use Rattle.std.proofs.Common.{List, map, ap, ◌∙◌}
use Rattle.std.proofs.lemmas.Result.{IfOk-weaker}
use Rattle.sheets.specs.declared.lines.Line.{Line}
use Rattle.sheets.specs.Sheets.{line_words, ReadsLines, ReadsSheet}
use Rattle.sheets.proofs.Sections.{whole}
use Rattle.sheets.proofs.sheet.Sheet.parse.Goals as goal

pub returns : goal.returns
returns g c =
    let text = g.L.Label.text in
    let bottom = g.L.Label.kind.bottom in
    let bytes = c.args.text.now in
    let all = c.as_slice.result.now in
    let lines =
    ap (λ (l : List Line). map line_words l) c.as_slice.ensures.value ∙ c.in_ok-lines.ensures in
    IfOk-weaker c.read.result (ReadsLines text bottom all) (ReadsSheet text bottom bytes)
    (λ sheet reads. whole text bottom bytes all sheet lines reads) c.read.ensures
