-- An element put under the newest k of the first n: what the copy and the write leave.
use Rattle.std.proofs.Common.{◌≡◌, ℕ, ◌+◌, ◌<◌, ◌≤◌, List, [], ◌∷◌, ◌++◌, reverse}
use Rattle.std.proofs.Common.{length, get_or, take, drop, set, sym, ap, ◌∙◌, arith}
use mathlib.Core.List.{reverse-cons}
use lib.Seq.{paste}
use Rattle.std.proofs.Math.Seq.{take-add}
use Rattle.std.proofs.lemmas.List.{append_assoc, length-append, length-reverse, length-take-le}
use Rattle.std.proofs.lemmas.List.{length-drop, take_more, take_at, drop_at, set_at, reverse-append}
use Rattle.steps.specs.Walks.{newest}

module _ {X : Type 0} where
  turned : (u v : List X) (x : X) → reverse (u ++ x ∷ v) ≡ reverse v ++ x ∷ reverse u
  turned u v x =
      reverse-append u (x ∷ v) ∙ ap (λ w. w ++ reverse u) (reverse-cons x v)
      ∙ append_assoc (reverse v) (x ∷ []) (reverse u)

  pub under_at : (xs : List X) (p k : ℕ) (x : X) → p + k < length xs
      → newest (p + k + 1) (set (paste xs (p + 1) (drop p xs) k) p x)
      ≡ take k (newest (p + k) xs) ++ x ∷ drop k (newest (p + k) xs)
  under_at xs p k x h =
      let under = take p xs in
      let moved = take k (drop p xs) in
      let beyond = drop (p + 1 + k) xs in
      let there = get_or xs p x in
      let inside : p < length xs = omega arith in
      let under_long : length under ≡ p = length-take-le p xs (omega arith) in
      let enough : k ≤ length (drop p xs) = omega (arith, length-drop p xs) in
      let moved_long : length moved ≡ k = length-take-le k (drop p xs) enough in
      let copied : paste xs (p + 1) (drop p xs) k ≡ under ++ there ∷ (moved ++ beyond) =
      ap (λ q. (q ++ moved) ++ beyond) (take_more xs p x inside)
      ∙ append_assoc (under ++ there ∷ []) moved beyond ∙ append_assoc under (there ∷ []) (moved ++ beyond) in
      let written : set (paste xs (p + 1) (drop p xs) k) p x ≡ (under ++ x ∷ moved) ++ beyond =
      ap (λ q. set q p x) copied ∙ set_at under there (moved ++ beyond) x p under_long
      ∙ sym (append_assoc under (x ∷ moved) beyond) in
      let long : length (under ++ x ∷ moved) ≡ p + k + 1 = omega (arith, length-append under (x ∷ moved)) in
      let after : newest (p + k + 1) (set (paste xs (p + 1) (drop p xs) k) p x) ≡ reverse moved ++ x ∷ reverse under =
      ap (λ q. reverse (take (p + k + 1) q)) written
      ∙ ap reverse (take_at (under ++ x ∷ moved) beyond (p + k + 1) long) ∙ turned under moved x in
      let before : newest (p + k) xs ≡ reverse moved ++ reverse under =
      ap reverse (take-add p k xs) ∙ reverse-append under moved in
      let turned_long : length (reverse moved) ≡ k = length-reverse moved ∙ moved_long in
      let top : take k (newest (p + k) xs) ≡ reverse moved =
      ap (take k) before ∙ take_at (reverse moved) (reverse under) k turned_long in
      let rest : drop k (newest (p + k) xs) ≡ reverse under =
      ap (drop k) before ∙ drop_at (reverse moved) (reverse under) k turned_long in
      after ∙ ap (λ q. q ++ x ∷ reverse under) (sym top) ∙ ap (λ q. take k (newest (p + k) xs) ++ x ∷ q) (sym rest)
