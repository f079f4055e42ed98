-- The line at which `kind_of` returns is one of the text's.
use Rattle.std.proofs.Common.{length, sym, ap, ◌∙◌}
use Rattle.std.proofs.lemmas.Iterator.Consumers.{YieldsList-turn}
use Rattle.std.proofs.lemmas.Iterator.Splits.{YieldsList-from_lines}
use Rattle.std.specs.Str.Iter.{lines_rest}
use Rattle.sheets.specs.Lines.{SaysSetting}
use Rattle.sheets.specs.Sheets.{line_words}
use Rattle.sheets.proofs.InOrder.{at_value}
use Rattle.sheets.proofs.settings.kind_of.Goals as goal

pub returns-in-Labels : goal.returns-in-Labels
returns-in-Labels c =
    let all =
    YieldsList-from_lines c.args.text.now
    (ap lines_rest c.into_iter-line-iterator.ensures.into_iter_gives
    ∙ c.lines-line-items.ensures.rest) in
    let turn =
    YieldsList-turn all c.loop-line.yielded _ c.loop-line.yielded_by _ _ c.in-Some.line
    c.in-Some.is c.next.ensures.steps in
    let says =
    at_value c.read.result c.map_err.result c.in_ok-setting.setting
    (SaysSetting (line_words c.in-Some-new.line)) _ c.map_err.ensures.cases c.in_ok-setting.was
    c.read.ensures in (
      c.in-Some.line.now,
      (length c.loop-line.yielded, turn.0, sym turn.1),
      sym c.in-Some-new.ensures
          ∙ rw c.in-Labels.is at says,
    )
