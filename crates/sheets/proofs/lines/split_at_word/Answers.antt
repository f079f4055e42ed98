-- Where the second part of `split_at_word` begins.
use Rattle.std.proofs.Common.{rules, ◌≡◌}
use Rattle.std.proofs.lemmas.Iterator.{IsFirst-from_position, YieldsList-from_slice}
use Rattle.std.proofs.lemmas.Slice.Eq.{bytes_eq-Decides}
use Rattle.sheets.specs.declared.lines.Line.{Line}
use Rattle.sheets.proofs.Sections.{begins}
use Rattle.sheets.proofs.lines.split_at_word.Goals as goal

pub returns-clause-begins : goal.returns-clause-begins
returns-clause-begins c =
    let No : Line → Type 0 = λ _. Unit {0} in
    let first =
    IsFirst-from_position _ _ c.position-index.result
    (λ (x : Line). x.first.now ≡ c.args.word.now) No c.position-index.ensures.ran
    (YieldsList-from_slice c.args.lines.now c.iter.ensures.rest)
    (λ x q k. search (rules, bytes_eq-Decides))
    (λ x q k. search (rules, bytes_eq-Decides)) in
    begins c.args.word.now No c.args.lines.now _ c.position-index.result first _ c.unwrap_or.ensures
    c.split_at.ensures.back
