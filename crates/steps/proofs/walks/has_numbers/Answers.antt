-- The count of numbers on top, by whether there are so many entries.
use Rattle.std.proofs.Common.{leb, length, reverse, sym, ap, ◌∙◌, take_all, arith}
use Rattle.std.proofs.lemmas.Bool.{lt-leb}
use Rattle.std.proofs.lemmas.List.{length-reverse}
use Rattle.steps.specs.Walks.{newest, numbers_on_top}
use Rattle.steps.proofs.Arguments.{all_numbers, numbers_within}
use Rattle.steps.proofs.Stacks.{length_newest}
use Rattle.steps.proofs.walks.has_numbers.Goals as goal

pub returns-then-count-used : goal.returns-then-count-used
returns-then-count-used g c =
    let used = c.args.used.now in
    c.are_numbers.ensures ∙ all_numbers c.args.count (reverse used) (omega (arith, length-reverse used))
    ∙ ap (λ s. leb c.args.count (numbers_on_top (reverse s))) (sym (take_all (length used) used (omega arith)))

pub returns-else-count-used : goal.returns-else-count-used
returns-else-count-used g c =
    let used = c.args.used.now in
    let top = newest (length used) used in
    lt-leb c.args.count (length used) (omega arith)
    ∙ sym
    (lt-leb c.args.count (numbers_on_top top)
    (omega (arith, numbers_within top, length_newest (length used) used (omega arith))))
