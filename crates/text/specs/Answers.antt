-- Answers to rule questions, and their text.
use Rattle.std.specs.Prelude.{◌≡◌, ℕ, List, [], ◌++◌, Some, None, Ok, Err, codes, Option, Result}
use Rattle.labels.specs.declared.Label.{Ghosts as LabelGhosts}
use Rattle.rules.specs.Tables.{Table}
use Rattle.rules.specs.Texts.{request_text, verdict_text}
use Rattle.rules.specs.declared.Policy.{Ghosts}
use Rattle.rules.specs.declared.Verdict.{Verdict}
use Rattle.text.specs.Questions.{Asks, Wrong}
use Rattle.text.specs.Words.{uncommented, words}
use Rattle.text.specs.declared.questions.Answer.{Answer}
use Rattle.text.specs.declared.questions.Fault.{Fault}

module _ {P L : Type 0} (label : LabelGhosts L) (policy : Ghosts P L) where
  -- what answering a line does: without a question, or with a wrong word, the policy is not asked
  abbrev pub Answers : List ℕ → P → Result (Option (Answer L)) Fault → P → Type 0
  Answers line before (Ok None) after = (words (uncommented line) ≡ []) × (after ≡ before)
  Answers line before (Ok (Some x)) after =
      Asks label (words (uncommented line)) x.request
      × policy.asked before x.request x.verdict after
  Answers line before (Err f) after =
      Wrong label.text (words (uncommented line)) f × (after ≡ before)

-- the verdict, if there is one, is the table's
abbrev pub ByTable : {L : Type 0} → Table L → Result (Option (Answer L)) Fault → Type 0
ByTable t (Ok (Some x)) = x.verdict ≡ t x.request
ByTable t r = Unit {0}

module _ {P L : Type 0} (policy : Ghosts P L) where
  -- true to any table before, the policy answers as that table does and is true to it after
  abbrev pub AnswersByTable : P → Result (Option (Answer L)) Fault → P → Type 0
  AnswersByTable before r after =
      (t : Table L) → policy.faithful before t → ByTable t r × policy.faithful after t

module _ {L : Type 0} (text : L → List ℕ) where
  -- what stands behind the request
  abbrev pub ruled_text : Option (Verdict L) → List ℕ
  ruled_text None = codes ": forbidden"
  ruled_text (Some v) = codes ": " ++ verdict_text text v

  -- the text of an answer: the whole request, then the verdict
  abbrev pub answer_text : Answer L → List ℕ
  answer_text x = request_text text x.request ++ ruled_text x.verdict
