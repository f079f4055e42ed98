-- Walks through two lists side by side, past the elements that the observer does not have.
use Rattle.std.proofs.Common.{◌≡◌, ℕ, ◌+◌, ◌-◌, ◌<◌, ◌≤◌, Bool, true, false, cond, List, [], ◌∷◌, drop, filter}
use Rattle.std.proofs.Common.{length, get_or, Some, None, Option, sym, ap, ◌∙◌, subst, arith, length-drop}
use Rattle.std.proofs.lemmas.List.{drop_more, drop_all}
use Rattle.machine.specs.Lists.{Each, none, OneBegins}
use Rattle.compare.specs.Differences.{Breaks}
use Rattle.compare.proofs.Breaking.{shifted, later, shifted_first, shifted_later, differ, go_on, none_before}
use Rattle.compare.proofs.Breaking.{none_behind, unlike, alike_on, first_ends, second_ends}

-- the element at a place, and what is behind it
pub met : {A : Type 0} (xs : List A) (i : ℕ) (x : A) → i < length xs → x ≡ get_or xs i x
    → drop i xs ≡ x ∷ drop (i + 1) xs
met xs i x lt is = drop_more xs i x lt ∙ ap (λ y. y ∷ drop (i + 1) xs) (sym is)

module _ {A : Type 0} (R : A → A → Type 0) (turn : (x y : A) → R x y → R y x) (has : A → Bool)
    (first second : List A) where
  -- What is left decides: where it first differs, the lists first differ so many places later.
  abbrev pub Walked : ℕ → ℕ → List A → Type 0
  Walked i place rest = (p : Option ℕ) → Breaks (OneBegins R) (filter has (drop i first)) (filter has rest) p
      → Breaks (OneBegins R) (filter has first) (filter has second) (shifted place p)

  module _ (i place : ℕ) (rest : List A) (walked : Walked i place rest) where
    pub walked_out : length first ≤ i → Breaks (OneBegins R) (filter has first) (filter has second) None
    walked_out over = walked None (rw (drop_all i first over) (none_before R (filter has rest)))

    module _ (x : A) (lt : i < length first) (is : x ≡ get_or first i x) where
      pub passed_over : has x ≡ false → Walked (i + 1) place rest
      passed_over hidden p breaks =
          walked p (subst (λ xs. Breaks (OneBegins R) xs (filter has rest) p)
          (sym (ap (filter has) (met first i x lt is)
          ∙ ap (λ b. cond b (x ∷ filter has (drop (i + 1) first))
          (filter has (drop (i + 1) first))) hidden)) breaks)

      module _ (yes : has x ≡ true) where
        had : filter has (drop i first) ≡ x ∷ filter has (drop (i + 1) first)
        had = ap (filter has) (met first i x lt is)
            ∙ ap (λ b. cond b (x ∷ filter has (drop (i + 1) first)) (filter has (drop (i + 1) first))) yes

        pub none_left : filter has rest ≡ [] → Breaks (OneBegins R) (filter has first) (filter has second) None
        none_left nothing = walked None (subst (λ ys. Breaks (OneBegins R) (filter has (drop i first)) ys None)
            (sym nothing) (none_behind R (filter has (drop i first))))

        module _ (y : A) (behind : List A) (left : filter has rest ≡ y ∷ filter has behind) where
          both_had : (p : Option ℕ) → Breaks (OneBegins R) (x ∷ filter has (drop (i + 1) first))
              (y ∷ filter has behind) p
              → Breaks (OneBegins R) (filter has first) (filter has second) (shifted place p)
          both_had p breaks = walked p (subst (λ xs. Breaks (OneBegins R) xs (filter has rest) p) (sym had)
              (subst (λ ys. Breaks (OneBegins R) (x ∷ filter has (drop (i + 1) first)) ys p) (sym left) breaks))

          pub stopped : (R x y → ⊥) → Breaks (OneBegins R) (filter has first) (filter has second) (Some place)
          stopped unalike = subst (Breaks (OneBegins R) (filter has first) (filter has second)) (shifted_first place)
              (both_had (Some 0) (differ R turn x y (filter has (drop (i + 1) first)) (filter has behind) unalike))

          pub walked_on : R x y → Walked (i + 1) (place + 1) behind
          walked_on r p breaks = subst (Breaks (OneBegins R) (filter has first) (filter has second))
              (shifted_later place p)
              (both_had (later p) (go_on R turn x y (filter has (drop (i + 1) first)) (filter has behind) p r breaks))

-- Likewise through lists of which he has all elements.
module _ {A : Type 0} (R : A → A → Type 0) (first second : List A) where
  abbrev pub Compared : ℕ → Type 0
  Compared i = (p : Option ℕ) → Breaks (Each R) (drop i first) (drop i second) p
      → Breaks (Each R) first second (shifted i p)

  module _ (i : ℕ) (compared : Compared i) where
    first_place : Breaks (Each R) (drop i first) (drop i second) (Some 0) → Breaks (Each R) first second (Some i)
    first_place breaks = subst (Breaks (Each R) first second) (shifted_first i) (compared (Some 0) breaks)

    longer_second : (ys : List A) → 0 < length ys → Breaks (Each R) [] ys (Some 0)
    longer_second [] more = absurd (omega arith)
    longer_second (y ∷ ys) more = first_ends R y ys

    pub first_over : length first ≤ i → i < length second → Breaks (Each R) first second (Some i)
    first_over over inside = first_place (rw (drop_all i first over)
        (longer_second (drop i second) (let left : length (drop i second) ≡ length second - i =
        length-drop i second in rw left (omega arith))))

    pub both_over : length first ≤ i → length second ≤ i → Breaks (Each R) first second None
    both_over over over' = compared None (rw (drop_all i first over, drop_all i second over') none)

    module _ (x : A) (inside : i < length first) (is : x ≡ get_or first i x) where
      pub second_over : length second ≤ i → Breaks (Each R) first second (Some i)
      second_over over = first_place (rw (met first i x inside is, drop_all i second over)
          (second_ends R x (drop (i + 1) first)))

      module _ (y : A) (inside' : i < length second) (is' : y ≡ get_or second i y) where
        pub differ_at : (R x y → ⊥) → Breaks (Each R) first second (Some i)
        differ_at unalike = first_place (rw (met first i x inside is, met second i y inside' is')
            (unlike R x y (drop (i + 1) first) (drop (i + 1) second) unalike))

        pub compared_on : R x y → Compared (i + 1)
        compared_on r p breaks = subst (Breaks (Each R) first second) (shifted_later i p)
            (compared (later p) (rw (met first i x inside is, met second i y inside' is')
            (alike_on R x y (drop (i + 1) first) (drop (i + 1) second) p r breaks)))
