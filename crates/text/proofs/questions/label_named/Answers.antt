-- The word is a label's text if nothing stands behind what is read off its front.
use Rattle.std.proofs.Common.{◌∙◌, sym}
use Rattle.text.proofs.ByWord.{whole_word, no_word}
use Rattle.text.proofs.questions.label_named.Goals as goal

pub returns-in_err-label : goal.returns-in_err-label
returns-in_err-label g c =
    rw c.from_residual.ensures
    (no_word g.L.Label.text c.args.word.now (rw c.as_bytes.ensures.value at c.in_err-label.ensures))

pub returns : goal.returns
returns g c =
    let word = sym c.as_bytes.ensures.value ∙ c.in_ok-label.ensures in
    let free = g.met.L.Label.unambiguous in
    rw c.then_some.ensures
    (whole_word g.L.Label.text c.args.word.now free _ _ word _ c.is_empty.ensures)
