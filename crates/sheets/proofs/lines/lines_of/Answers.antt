-- One more line of `lines_of`, and the last.
use Rattle.std.proofs.Common.{ap, ◌∙◌}
use Rattle.std.proofs.lemmas.Iterator.Consumers.{YieldsList-end}
use Rattle.std.proofs.lemmas.Iterator.Splits.{YieldsList-from_lines}
use Rattle.std.specs.Str.Iter.{lines_rest}
use Rattle.sheets.specs.Sheets.{worded_lines}
use Rattle.sheets.proofs.Wording.{kept, passed}
use Rattle.sheets.proofs.lines.lines_of.Goals as goal

pub loop-line-preserved-in-Continue-1 : goal.loop-line-preserved-in-Continue-1
loop-line-preserved-in-Continue-1 c =
    kept c.loop-line.yielded c.in-Some.line c.loop-line.lines.items _ c.in-Some-new.line
    c.in_ok-push.ensures.items c.loop-line.invariant c.in-Some-new.ensures

pub loop-line-preserved : goal.loop-line-preserved
loop-line-preserved c =
    passed c.loop-line.yielded c.in-Some.line c.loop-line.lines.items c.loop-line.invariant
    c.in_default.ensures

pub returns : goal.returns
returns c =
    let all =
    YieldsList-end
    (YieldsList-from_lines c.args.text.now
    (ap lines_rest c.into_iter-line-iterator.ensures.into_iter_gives
    ∙ c.lines-line-items.ensures.rest)) c.loop-line.yielded _ c.loop-line.yielded_by _ _
    c.in-None.is c.next.ensures.steps in
    c.loop-line.invariant ∙ ap worded_lines all.0
