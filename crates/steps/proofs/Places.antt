-- Elements of a list by their places.
use Rattle.std.proofs.Common.{◌≡◌, ℕ, zero, suc, ◌<◌, ◌≤◌, ◌^◌, List, [], ◌∷◌, length, get_or, ℤ, pos}
use Rattle.std.proofs.Common.{negsuc, Some, None, Ok, Err, sym, refl, ap, ◌∙◌, arith, w64, SFits, of_z}
use Rattle.machine.specs.Steps.{stopped, element, at_place}
use Rattle.machine.specs.declared.answers.End.TheVariants.{Stopped}
use Rattle.machine.specs.declared.answers.Stop.TheVariants.{OutsideMemory}
use Rattle.machine.specs.declared.parts.Labelled.{Labelled}
use Rattle.steps.specs.Walks.{FindsCell}

-- A place that is cast to an index within a part is that index: a negative one is cast to a number that no part
-- is as long as.
pub index_is : (place : ℤ) (long : ℕ) → SFits w64 place → long ≤ 2 ^ 63 → of_z w64 place < long
    → place ≡ pos (of_z w64 place)
index_is (pos n) long fits most within = refl
index_is (negsuc n) long fits most within = absurd (omega (arith, fits))

module _ {A : Type 0} where
  pub element_read : (xs : List A) (i : ℕ) (x : A) → i < length xs → x ≡ get_or xs i x → element xs i None Some ≡ Some x
  element_read [] i x inside read = absurd (omega arith)
  element_read (y ∷ xs) zero x inside read = ap Some (sym read)
  element_read (y ∷ xs) (suc i) x inside read = element_read xs i x (omega arith) read

  pub element_past : {B : Type 0} (xs : List A) (i : ℕ) (else : B) (then : A → B) → length xs ≤ i
      → element xs i else then ≡ else
  element_past [] i else then past = refl
  element_past (y ∷ xs) zero else then past = absurd (omega arith)
  element_past (y ∷ xs) (suc i) else then past = element_past xs i else then (omega arith)

  pub place_past : (xs : List A) (place : ℤ) → length xs ≤ of_z w64 place → at_place xs place None Some ≡ None
  place_past xs (pos i) past = element_past xs i None Some past
  place_past xs (negsuc i) past = refl

  module _ {B : Type 0} (else : B) (then : A → B) where
    element_there : (xs : List A) (i : ℕ) (x : A) → element xs i None Some ≡ Some x → element xs i else then ≡ then x
    element_there [] i x found = let z : ◌≡◌ {A = ℕ} 0 1 = cc in absurd (omega arith)
    element_there (y ∷ xs) zero x found = cc
    element_there (y ∷ xs) (suc i) x found = element_there xs i x found

    element_none : (xs : List A) (i : ℕ) → element xs i None Some ≡ None → element xs i else then ≡ else
    element_none [] i found = refl
    element_none (y ∷ xs) zero found = let z : ◌≡◌ {A = ℕ} 0 1 = cc in absurd (omega arith)
    element_none (y ∷ xs) (suc i) found = element_none xs i found

    -- An element that is there is what follows goes on with, and where there is none it is the way out.
    pub place_there : (xs : List A) (place : ℤ) (x : A) → at_place xs place None Some ≡ Some x
        → at_place xs place else then ≡ then x
    place_there xs (pos i) x found = element_there xs i x found
    place_there xs (negsuc i) x found = let z : ◌≡◌ {A = ℕ} 0 1 = cc in absurd (omega arith)

    pub place_none : (xs : List A) (place : ℤ) → at_place xs place None Some ≡ None → at_place xs place else then ≡ else
    place_none xs (pos i) found = element_none xs i found
    place_none xs (negsuc i) found = refl

-- What was found at an address is the cell there.
module _ {L : Type 0} (memory : List (Labelled L)) (place address : ℤ) (same : place ≡ address) where
  pub finds_cell : (index : ℕ) (cell : Labelled L)
      → (place ≡ pos index) × (index < length memory)
      × (at_place memory place None Some ≡ Some cell)
      → FindsCell memory address (Ok (record { index = index; element = cell }))
  finds_cell index cell found = (
    sym same ∙ found.0,
    found.1,
    λ then.
        place_there (stopped OutsideMemory) then memory address cell
        (ap (λ p. at_place memory p None Some) (sym same) ∙ found.2),
  )

  pub finds_no_cell : at_place memory place None Some ≡ None → FindsCell memory address (Err (Stopped OutsideMemory))
  finds_no_cell found =
      λ then.
      place_none (stopped OutsideMemory) then memory address
      (ap (λ p. at_place memory p None Some) (sym same) ∙ found)
