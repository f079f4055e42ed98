-- Lists that are decoded element by element.
use Rattle.std.proofs.Common.{◌≡◌, ◌+◌, ℕ, zero, suc, ◌<◌, List, [], ◌∷◌, ◌++◌, length, get_or}
use Rattle.std.proofs.Common.{take, sym, subst, arith, ap, ◌∙◌}
use Rattle.std.proofs.lemmas.List.{take_more}
use Rattle.boundary.specs.Decoding.{Unread}
use Rattle.boundary.specs.Parts.{CodesEach, none, more}
use Rattle.boundary.specs.declared.faults.Fault.{Fault}
use Rattle.boundary.specs.declared.faults.Fault.TheVariants.{NoCode, OutOfMemory, Unmade}

module _ {C A : Type 0} {Codes : C → A → Type 0} where
  -- one more behind the others
  at_end : {cs : List C} {xs : List A} {c : C} {a : A} → CodesEach Codes cs xs → Codes c a
      → CodesEach Codes (cs ++ c ∷ []) (xs ++ a ∷ [])
  at_end none is = more is none
  at_end (more first rest) is = more first (at_end rest is)

  pub codes_more : (cs : List C) (i : ℕ) (c : C) {xs : List A} {a : A} → i < length cs
      → c ≡ get_or cs i c → CodesEach Codes (take i cs) xs → Codes c a
      → CodesEach Codes (take (i + 1) cs) (xs ++ a ∷ [])
  codes_more cs i c {xs} {a} inside read so_far is =
      subst (λ ds. CodesEach Codes ds (xs ++ a ∷ []))
      (sym (take_more cs i c inside ∙ ap (λ d. take i cs ++ d ∷ []) (sym read))) (at_end so_far is)

  -- Where one of them codes nothing, no list is coded.
  pub codes_nothing : (cs : List C) (i : ℕ) (c : C) → i < length cs → c ≡ get_or cs i c
      → ((a : A) → Codes c a → ⊥) → (xs : List A) → CodesEach Codes cs xs → ⊥
  codes_nothing [] i c inside read nothing xs each = absurd (omega arith)
  codes_nothing (d ∷ cs) i c inside read nothing [] each = elim each [ ]
  codes_nothing (d ∷ cs) zero c inside read nothing (x ∷ xs) (more first rest) =
      nothing x (subst (λ y. Codes y x) (sym read) first)
  codes_nothing (d ∷ cs) (suc i) c inside read nothing (x ∷ xs) (more first rest) =
      codes_nothing cs i c (omega arith) read nothing xs rest

pub unread : {Nothing Nothing' : Type 0} → (why : Fault) → (Nothing → Nothing') → Unread Nothing why
    → Unread Nothing' why
unread NoCode so is = so is
unread OutOfMemory so is = tt
unread (Unmade why) so is = absurd is
