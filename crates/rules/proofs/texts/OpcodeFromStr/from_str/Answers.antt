-- The operation that the search for the word found.
use Rattle.std.proofs.Common.{rules, ◌≡◌, ◌≢◌}
use Rattle.std.proofs.lemmas.Iterator.{YieldsList-from_slice, first_from_find}
use Rattle.std.proofs.lemmas.Slice.Eq.{bytes_eq-Decides}
use Rattle.rules.specs.Texts.{name}
use Rattle.rules.proofs.Names.{every, found}
use Rattle.rules.proofs.texts.OpcodeFromStr.from_str.Goals as goal

pub returns : goal.returns
returns c =
    let word = c.args.word.now in
    rw (c.ok_or.ensures.value, c.copied.ensures)
    (found word c.find.result _
    (first_from_find _ _ c.find.result (λ op. name op ≡ word) (λ op. name op ≢ word)
    c.find.ensures.ran (YieldsList-from_slice every c.iter.ensures.rest)
    (λ x q k. search (rules, bytes_eq-Decides))
    (λ x q k. search (rules, bytes_eq-Decides))))
