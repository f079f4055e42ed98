-- Where a word is wrong, it is the line's first such; where none is, the labels are those given.
use Rattle.std.proofs.Common.{ℕ, List, [], sym, refl, subst, inr}
use Rattle.std.proofs.lemmas.Result.{err_from_is_err_and}
use Rattle.text.specs.Questions.{Wrong, WrongLabel, Given}
use Rattle.text.specs.Words.{words}
use Rattle.text.specs.declared.questions.Fault.{Fault}
use Rattle.text.proofs.ByWord.{given_more, wrong_more, wrong_here}
use Rattle.text.proofs.questions.read_request.Given as given
use Rattle.text.proofs.questions.read_request.Goals as goal
use Rattle.text.proofs.questions.read_request.Goals.{In_ok-b}

-- a wrong word where the last label is due, or after it, is the line's first
wrong_from_last : (g : given.Over) (c : In_ok-b g) (f : Fault)
    → WrongLabel g.L.Label.text (words c.in_ok-b.rest.now) 1 f
    → Wrong g.L.Label.text (words c.args.line.now) f
wrong_from_last g c f wrong =
    let label = g.L.Label in
    let labels =
    wrong_more label _ _ _ 3 f c.in_ok-pc.ensures
    (wrong_more label _ _ _ 2 f c.in_ok-a.ensures
    (wrong_more label _ _ _ 1 f c.in_ok-b.ensures wrong)) in
    rw c.in-Some.ensures.0 (inr ((c.in_ok-op.op, c.in_ok-op.ensures), labels))

pub returns-in_err-c : goal.returns-in_err-c
returns-in_err-c g c =
    let given = c.from_residual-in_err-c in
    let p = err_from_is_err_and given.result given.ensures.1 in
    let wrong = wrong_here g.L.Label.text _ 0 _ c.in_err-c.ensures in
    rw (p.1, p.2) (wrong_from_last g (goal.at.returns-in_err-c g c).In_ok-b _ wrong)

pub returns-in-Some-next_word : goal.returns-in-Some-next_word
returns-in-Some-next_word g c =
    wrong_from_last g (goal.at.returns-in-Some-next_word g c).In_ok-b _
    (wrong_more g.L.Label _ _ _ 0 _ c.in_ok-c.ensures (rw c.in-Some-next_word.ensures.0 refl))

pub returns : goal.returns
returns g c =
    let label = g.L.Label in
    let none = sym c.in_default-next_word.ensures in
    let last = subst (λ (l : List (List ℕ)). Given label l []) none tt in
    let given =
    given_more label _ _ _ _ c.in_ok-pc.ensures
    (given_more label _ _ _ _ c.in_ok-a.ensures
    (given_more label _ _ _ _ c.in_ok-b.ensures
    (given_more label _ _ _ _ c.in_ok-c.ensures last))) in
    rw c.in-Some.ensures.0 (c.in_ok-op.ensures, given)
