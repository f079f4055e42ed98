-- The line's first word, behind the blanks at its front, or that there is none.
use Rattle.std.proofs.Common.{IsUtf8, sym, ap, subst, ◌∙◌}
use Rattle.std.specs.List.{position}
use Rattle.std.specs.Str.{IsCharBoundary}
use Rattle.text.specs.Words.{blank, dark}
use Rattle.text.proofs.Lines.{no_words, next, word_whole, blank_whole, found_or}
use Rattle.text.proofs.words.next_word.Goals as goal

pub returns-in_err-start : goal.returns-in_err-start
returns-in_err-start c =
    let none = no_words c.args.line.now
    (ap (position dark) (sym c.as_bytes.ensures.value) ∙ sym c.first_dark.ensures ∙ c.in_err-start.was) in
    rw c.from_residual.ensures none

pub split_at-requires : goal.split_at-requires
split_at-requires c =
    let utf8 = subst IsUtf8 c.as_bytes.ensures.value c.as_bytes.ensures.utf8 in
    word_whole c.args.line.now c.in_ok-start.start utf8
    (ap (position dark) (sym c.as_bytes.ensures.value) ∙ sym c.first_dark.ensures ∙ c.in_ok-start.was)

pub split_at-requires-2 : goal.split_at-requires-2
split_at-requires-2 c =
    let rest = c.split_at.result.1.now in
    let at = c.unwrap_or-end.ensures
    ∙ found_or blank rest _ (c.first_blank.ensures ∙ ap (position blank) c.as_bytes-2.ensures.value) in
    subst (IsCharBoundary rest) (sym at) (blank_whole rest)

pub returns : goal.returns
returns c =
    let line = c.args.line.now in
    let rest = c.split_at.result.1.now in
    let found = ap (position dark) (sym c.as_bytes.ensures.value) ∙ sym c.first_dark.ensures ∙ c.in_ok-start.was in
    let at = c.unwrap_or-end.ensures
    ∙ found_or blank rest _ (c.first_blank.ensures ∙ ap (position blank) c.as_bytes-2.ensures.value) in
    let parts = c.split_at-2.ensures in
    next line rest c.in_ok-start.start found c.split_at.ensures.back _ _ _ at parts.front parts.back
