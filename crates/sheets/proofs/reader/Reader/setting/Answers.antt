-- The line of a cell, in `setting`.
use Rattle.std.proofs.Common.{refl, arith}
use Rattle.sheets.specs.Settings.{SaysCell}
use Rattle.sheets.specs.Sheets.{line_words}
use Rattle.sheets.proofs.Given.{cell_adds, ok_of_three}
use Rattle.sheets.proofs.reader.Reader.setting.Goals as goal

pub returns-in-Some : goal.returns-in-Some
returns-in-Some g c =
    let (cell, is, read) = rw c.in-Cell.is at c.in_ok-kind.ensures in
    let number = c.in_ok-number-in-Cell.number in
    let says : SaysCell g.L.Label.text (line_words c.args.line.now) c.in-Cell.cell number = (
      cell,
      c.in-Cell.number.now,
      is,
      read,
      λ u fits same. grind (arith, c.in_ok-number-in-Cell.ensures u fits same),
    ) in
    let after = record c.args.given.now { cells = c.give_cell.new.cells } in
    ok_of_three c.give_cell.result _ _ _ _
    (λ inside empty filled.
    cell_adds g.L.Label.text _ c.in-Cell.cell number c.args.given.now after
    (c.in_ok-kind.field-0, c.in_ok-kind.ensures) says c.requires.few refl refl inside empty filled)
    c.give_cell.ensures.inside c.give_cell.ensures.empty c.give_cell.ensures.filled
