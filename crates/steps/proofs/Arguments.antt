-- The numbers that a call takes.
use Rattle.std.proofs.Common.{◌≡◌, ℕ, zero, suc, leb, true, ◌<◌, ◌≤◌, List, [], ◌∷◌}
use Rattle.std.proofs.Common.{◌++◌, length, take, drop, refl, sym, ap, ◌∙◌, arith}
use Rattle.std.proofs.lemmas.Bool.{le-leb, lt-leb, leb-true}
use Rattle.std.proofs.lemmas.Bool.Decides.{nat_tests}
use Rattle.std.specs.List.{list_all}
use Rattle.machine.specs.Steps.{Outcome, stopped, taking_all, numbers_onto}
use Rattle.machine.specs.declared.answers.Stop.TheVariants.{TooFewNumbers}
use Rattle.machine.specs.declared.parts.Entry.{Entry}
use Rattle.machine.specs.declared.parts.Entry.TheVariants.{Number, Frame}
use Rattle.machine.specs.declared.parts.Labelled.{Labelled}
use Rattle.steps.specs.Walks.{newest, numbers_on_top, is_number}
use Rattle.steps.proofs.Stacks.{newest_first}

leb_suc : (k n : ℕ) → leb k n ≡ leb (suc k) (suc n)
leb_suc k n = grind (arith, nat_tests)

module _ {L : Type 0} where
  -- the first k numbers
  abbrev pub taken : ℕ → List (Entry L) → List (Labelled L)
  taken zero es = []
  taken (suc k) [] = []
  taken (suc k) (Number a ∷ es) = a ∷ taken k es
  taken (suc k) (Frame f ∷ es) = []

  pub takes_all : (k : ℕ) (es : List (Entry L))
      (then : List (Labelled L) → List (Entry L) → Outcome L)
      → k ≤ numbers_on_top es → taking_all k es then ≡ then (taken k es) (drop k es)
  takes_all zero es then enough = refl
  takes_all (suc k) [] then enough = absurd (omega arith)
  takes_all (suc k) (Number a ∷ es) then enough =
      takes_all k es (λ numbers under. then (a ∷ numbers) under) (omega arith)
  takes_all (suc k) (Frame f ∷ es) then enough = absurd (omega arith)

  pub takes_too_many : (k : ℕ) (es : List (Entry L))
      (then : List (Labelled L) → List (Entry L) → Outcome L)
      → numbers_on_top es < k → taking_all k es then ≡ stopped TooFewNumbers
  takes_too_many zero es then few = absurd (omega arith)
  takes_too_many (suc k) [] then few = refl
  takes_too_many (suc k) (Number a ∷ es) then few =
      takes_too_many k es (λ numbers under. then (a ∷ numbers) under) (omega arith)
  takes_too_many (suc k) (Frame f ∷ es) then few = refl

  pub taken_onto : (k : ℕ) (es : List (Entry L)) (e : Entry L) → k ≤ numbers_on_top es
      → take k es ++ e ∷ drop k es ≡ numbers_onto (taken k es) (e ∷ drop k es)
  taken_onto zero es e enough = refl
  taken_onto (suc k) [] e enough = absurd (omega arith)
  taken_onto (suc k) (Number a ∷ es) e enough = ap (λ rest. Number a ∷ rest) (taken_onto k es e (omega arith))
  taken_onto (suc k) (Frame f ∷ es) e enough = absurd (omega arith)

  pub numbers_within : (es : List (Entry L)) → numbers_on_top es ≤ length es
  numbers_within [] = omega arith
  numbers_within (Number a ∷ es) = omega (arith, numbers_within es)
  numbers_within (Frame f ∷ es) = omega arith

  pub all_numbers : (k : ℕ) (es : List (Entry L)) → k ≤ length es
      → list_all is_number (take k es) ≡ leb k (numbers_on_top es)
  all_numbers zero es within = sym (le-leb 0 (numbers_on_top es) (omega arith))
  all_numbers (suc k) [] within = absurd (omega arith)
  all_numbers (suc k) (Number a ∷ es) within = all_numbers k es (omega arith) ∙ leb_suc k (numbers_on_top es)
  all_numbers (suc k) (Frame f ∷ es) within = sym (lt-leb (suc k) 0 (omega arith))

  -- So many numbers lie on top of the first n entries, as it was found in them alone.
  pub enough_numbers : (used : List (Entry L)) (n k count : ℕ) → n ≤ length used → k ≡ count
      → true ≡ leb k (numbers_on_top (newest (length (take n used)) (take n used)))
      → count ≤ numbers_on_top (newest n used)
  enough_numbers used n k count within same found =
      omega (
        arith,
        same,
        leb-true k (numbers_on_top (newest (length (take n used)) (take n used))) (sym found),
        ap numbers_on_top (newest_first used n within),
      )
