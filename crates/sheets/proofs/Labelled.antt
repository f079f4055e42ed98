-- Reading a labelled number at its `@`.
use Rattle.std.proofs.Common.{◌≡◌, ℕ, List, [], Option, MatchOption, lit<, arith, sym, ap, ◌∙◌}
use Rattle.std.proofs.Common.{append-nil, ℤ, Result, Ok, to_z, of_z}
use Rattle.std.specs.Borrow.{Bor}
use Rattle.std.specs.Fmt.{signed_decimal}
use Rattle.std.specs.Prelude.{FitsSigned}
use Rattle.std.specs.Int.{w32}
use Rattle.std.proofs.lemmas.Int.{to_z-of_z}
use Rattle.std.proofs.lemmas.Str.Pattern.{IsSplitOnceResult, split_after}
use Rattle.labels.specs.Text.{PrefixFree}
use Rattle.machine.specs.declared.parts.Labelled.{Labelled}
use Rattle.machine.specs.Texts.{number_text}
use Rattle.sheets.proofs.Digits.{no_at}

module _ {L : Type 0} (text : L → List ℕ) where
  -- the number stands before the `@` and the label behind it
  pub parts : (word : List ℕ) (r : Option (Bor (List ℕ) × Bor (List ℕ)))
      → IsSplitOnceResult 64 word r
      → (u : Labelled L) → FitsSigned w32 u.value → word ≡ number_text text u
      → MatchOption r ⊥ (λ x. (x.0.now ≡ signed_decimal u.value) × (x.1.now ≡ text u.label))
  parts word r split u fits is =
      split_after 64 word (signed_decimal u.value) (text u.label) r split (lit< tt) is
      (no_at u.value (omega (arith, fits.sfits)))

  -- one text is of one label
  pub one_label : PrefixFree text → (a b : L) → text a ≡ text b → a ≡ b
  one_label free a b e = free a b [] [] (append-nil (text a) ∙ e ∙ sym (append-nil (text b)))

-- a labelled number that was read part by part
pub same_number : {L E : Type 0} (v : ℤ) (l : L) (u : Labelled L) → FitsSigned w32 u.value
    → v ≡ u.value → l ≡ u.label
    → ◌≡◌ {A = Result (Labelled L) E} (Ok record { value = to_z w32 (of_z w32 v); label = l })
    (Ok u)
same_number {L} {E} v l u fits e f =
    let value = ap (λ z. to_z w32 (of_z w32 z)) e ∙ to_z-of_z w32 u.value fits in
    let one : Labelled L → Result (Labelled L) E = λ x. Ok x in
    ap (λ z. one (record { value = z; label = l })) value
    ∙ ap (λ a. one (record { value = u.value; label = a })) f
