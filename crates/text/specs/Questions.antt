-- Rule questions: an operation's name and up to four labels, those left out bottom.
use Rattle.std.specs.Prelude.{◌≡◌, ℕ, zero, suc, ◌⊎◌, List, [], ◌∷◌}
use Rattle.std.specs.Prelude.{Some, None, Option, Ok, Err, Result}
use Rattle.std.specs.Borrow.{Bor}
use Rattle.labels.specs.declared.Label.{Ghosts as LabelGhosts}
use Rattle.rules.specs.declared.Opcode.{Opcode}
use Rattle.rules.specs.declared.Request.{Request}
use Rattle.rules.specs.Texts.{name}
use Rattle.text.specs.Words.{words, Names}
use Rattle.text.specs.declared.questions.Fault.{Fault}
use Rattle.text.specs.declared.questions.Fault.TheVariants.{Operation, Label, Extra}

-- the fault is that the word is no operation's name
abbrev pub NoOperation : List ℕ → Fault → Type 0
NoOperation word (Operation x) = (x.now ≡ word) × Names name word None
NoOperation word f = ⊥

-- the operation of that name, or the fault that it is none's
abbrev pub NamesOperation : List ℕ → Result Opcode Fault → Type 0
NamesOperation word (Ok op) = Names name word (Some op)
NamesOperation word (Err f) = NoOperation word f

-- the fault is that the word is one too many
abbrev pub OneTooMany : List ℕ → Fault → Type 0
OneTooMany word (Extra x) = x.now ≡ word
OneTooMany word f = ⊥

module _ {L : Type 0} (text : L → List ℕ) where
  -- the fault is that the word is no label's text
  abbrev pub NoLabel : List ℕ → Fault → Type 0
  NoLabel word (Label x) = (x.now ≡ word) × Names text word None
  NoLabel word f = ⊥

  -- the first word is the fault: it is no label's text
  abbrev pub FirstWrong : List (List ℕ) → Fault → Type 0
  FirstWrong [] f = ⊥
  FirstWrong (w ∷ ws) f = NoLabel w f

  -- the first wrong word where at most n labels are due
  abbrev pub WrongLabel : List (List ℕ) → ℕ → Fault → Type 0
  WrongLabel [] n f = ⊥
  WrongLabel (w ∷ ws) zero f = OneTooMany w f
  WrongLabel (w ∷ ws) (suc n) f =
      NoLabel w f ⊎ (((a : L) × Names text w (Some a)) × WrongLabel ws n f)

  -- the first wrong word of a question
  abbrev pub Wrong : List (List ℕ) → Fault → Type 0
  Wrong [] f = ⊥
  Wrong (w ∷ ws) f =
      NoOperation w f ⊎ (((op : Opcode) × Names name w (Some op)) × WrongLabel ws 4 f)

module _ {L : Type 0} (label : LabelGhosts L) where
  -- the words are the texts of the labels; labels left out at the end are bottom
  abbrev pub Given : List (List ℕ) → List L → Type 0
  Given [] [] = Unit {0}
  Given [] (a ∷ more) = (a ≡ label.kind.bottom) × Given [] more
  Given (w ∷ ws) [] = ⊥
  Given (w ∷ ws) (a ∷ more) = Names label.text w (Some a) × Given ws more

  -- the words ask this
  abbrev pub Asks : List (List ℕ) → Request L → Type 0
  Asks [] q = ⊥
  Asks (w ∷ ws) q = Names name w (Some q.op) × Given ws (q.pc ∷ q.a ∷ q.b ∷ q.c ∷ [])

  -- no question, the question that the line's words ask, or its first wrong word
  abbrev pub ReadsQuestion : List ℕ → Result (Option (Request L)) Fault → Type 0
  ReadsQuestion line (Ok None) = words line ≡ []
  ReadsQuestion line (Ok (Some q)) = Asks (words line) q
  ReadsQuestion line (Err f) = Wrong label.text (words line) f

  -- the label of the first word, bottom where there is none, and the words after it
  abbrev pub Taken : List (List ℕ) → L → List (List ℕ) → Type 0
  Taken [] a after = (a ≡ label.kind.bottom) × (after ≡ [])
  Taken (w ∷ ws) a after = Names label.text w (Some a) × (after ≡ ws)

  -- the line's first label and what comes after it, or its first word, which is no label's text
  abbrev pub NextLabel : List ℕ → Result (L × Bor (List ℕ)) Fault → Type 0
  NextLabel line (Ok r) = Taken (words line) r.0 (words r.1.now)
  NextLabel line (Err f) = FirstWrong label.text (words line) f
