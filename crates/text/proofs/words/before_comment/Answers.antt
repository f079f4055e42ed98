-- What is split off at the first `#` is the line up to its comment.
use Rattle.std.proofs.Common.{rules}
use Rattle.text.proofs.Lines.{before}
use Rattle.text.proofs.words.before_comment.Goals as goal

pub returns : goal.returns
returns c = before _ _ _ c.split_once.ensures.cases (search rules)
