-- Reading a question word by word.
use Rattle.std.proofs.Common.{◌≡◌, ℕ, suc, Bool, true, false, List, [], ◌∷◌, ◌++◌, length, None}
use Rattle.std.proofs.Common.{sym, ap, ◌∙◌, subst, inl, inr, arith}
use Rattle.std.proofs.Common.{append-nil, length-append, true-eqb, false-eqb}
use Rattle.std.specs.Bool.{then_some, ◌==◌}
use Rattle.std.proofs.lemmas.List.{nil_from_length}
use Rattle.labels.specs.declared.Label.{Ghosts as LabelGhosts}
use Rattle.labels.specs.Text.{PrefixFree, BeginsWith}
use Rattle.text.specs.Questions.{WrongLabel, Given, Taken, FirstWrong}
use Rattle.text.specs.Words.{Names}
use Rattle.text.specs.declared.questions.Fault.{Fault}

-- A word and the label read off its front.

module _ {L : Type 0} (text : L → List ℕ) (word : List ℕ) where
  -- no label, if no label's text stands at its front
  pub no_word : ((a : L) → BeginsWith text word a → ⊥) → Names text word None
  no_word none a e = none a ([], e ∙ sym (append-nil (text a)))

  -- a label, if nothing comes behind its text
  pub whole_word : PrefixFree text → (a : L) (rest : List ℕ) → word ≡ text a ++ rest
      → (all : Bool) → all ≡ (length rest == 0) → Names text word (then_some all a)
  whole_word free a rest e true all =
      e ∙ ap (λ l. text a ++ l) (nil_from_length rest (true-eqb _ 0 all)) ∙ append-nil (text a)
  whole_word free a rest e false all =
      λ b is.
      let same : a ≡ b = free a b rest [] (sym e ∙ is ∙ sym (append-nil (text b))) in
      let long = ap length (sym e ∙ is) ∙ ap (λ y. length (text y)) (sym same) in
      omega (arith, false-eqb _ 0 all, long, length-append (text a) rest)

-- One word more.

module _ {L : Type 0} (label : LabelGhosts L) where
  -- the labels of the words behind it stand behind its own
  pub given_more : (ws after : List (List ℕ)) (a : L) (more : List L)
      → Taken label ws a after → Given label after more → Given label ws (a ∷ more)
  given_more [] after a more (is, none) given =
      (is, subst (λ l. Given label l more) none given)
  given_more (w ∷ ws) after a more (is, same) given =
      (is, subst (λ l. Given label l more) same given)

  -- a wrong word behind it is wrong where it is due
  pub wrong_more : (ws after : List (List ℕ)) (a : L) (n : ℕ) (f : Fault)
      → Taken label ws a after → WrongLabel label.text after n f
      → WrongLabel label.text ws (suc n) f
  wrong_more [] after a n f (is, none) wrong =
      absurd (subst (λ l. WrongLabel label.text l n f) none wrong)
  wrong_more (w ∷ ws) after a n f (is, same) wrong =
      inr ((a, is), subst (λ l. WrongLabel label.text l n f) same wrong)

module _ {L : Type 0} (text : L → List ℕ) where
  -- a first word that is wrong is the first wrong one
  pub wrong_here : (ws : List (List ℕ)) (n : ℕ) (f : Fault)
      → FirstWrong text ws f → WrongLabel text ws (suc n) f
  wrong_here [] n f wrong = wrong
  wrong_here (w ∷ ws) n f wrong = inl wrong
