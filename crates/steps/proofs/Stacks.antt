-- The first elements of a lent part, the newest first, as the code reads and writes them.
use Rattle.std.proofs.Common.{◌≡◌, ℕ, ◌+◌, ◌<◌, ◌≤◌, List, [], ◌∷◌, ◌++◌, reverse}
use Rattle.std.proofs.Common.{length, take, set, refl, sym, ap, ◌∙◌, arith}
use Rattle.std.proofs.lemmas.List.{take_all, take_at, take-take, length-take, take-append-le, length-append}
use Rattle.std.proofs.lemmas.List.{length-reverse, length-take-le, take_more_set, reverse-append}
use Rattle.steps.specs.Walks.{newest}

module _ {A : Type 0} where
  pub length_newest : (n : ℕ) (xs : List A) → n ≤ length xs → length (newest n xs) ≡ n
  length_newest n xs within = length-reverse (take n xs) ∙ length-take-le n xs within

  -- a write on top
  pub newest_put : (xs : List A) {ys : List A} {x : A} (depth i : ℕ) → ys ≡ set xs i x
      → depth ≡ i + 1 → i < length xs → newest depth ys ≡ x ∷ newest i xs
  newest_put xs {ys} {x} depth i written one inside =
      ap (newest depth) written ∙ ap (λ n. newest n (set xs i x)) one
      ∙ ap reverse (take_more_set xs i x inside) ∙ reverse-append (take i xs) (x ∷ [])

  -- what lies beyond the entries in use
  pub newest_on : (n : ℕ) (xs ys : List A) → n ≤ length xs → newest n (xs ++ ys) ≡ newest n xs
  newest_on n xs ys within = ap reverse (take-append-le n xs ys within)

  -- A walk from the newest entry down, when it comes to x: what is left of it.
  pub record Walks (xs rest left : List A) (x : A) : Type 0 where
    pub inside : length left < length xs
    pub left_is : left ≡ take (length left) xs
    pub from_rest : newest (length rest) xs ≡ x ∷ newest (length left) xs

  pub walks : (xs rest left : List A) (x : A) → rest ≡ take (length rest) xs → rest ≡ left ++ x ∷ []
      → Walks xs rest left x
  walks xs rest left x rest_is more =
      let one : length rest ≡ length left + 1 = ap length more ∙ length-append left (x ∷ []) in
      let within : length rest ≤ length xs = omega (arith, ap length rest_is, length-take (length rest) xs) in
      let left_is : left ≡ take (length left) xs =
      sym (take_at left (x ∷ []) (length left) refl) ∙ ap (take (length left)) (sym more ∙ rest_is)
      ∙ take-take (length left) (length rest) xs (omega arith) in
      record {
        inside = omega arith;
        left_is = left_is;
        from_rest = ap reverse (sym rest_is ∙ more) ∙ reverse-append left (x ∷ []) ∙ ap (λ s. x ∷ reverse s) left_is;
      }

  -- of the first n elements alone
  pub newest_first : (xs : List A) (n : ℕ) → n ≤ length xs → newest (length (take n xs)) (take n xs) ≡ newest n xs
  newest_first xs n within = ap reverse (take_all (length (take n xs)) (take n xs) (omega arith))
