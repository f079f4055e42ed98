-- What the walks over the lent parts find.
use Rattle.std.specs.Borrow.{Bor}
use Rattle.std.specs.Prelude.{◌≡◌, ℕ, Bool, true, false, suc, ◌-◌, ◌<◌, List, [], ◌∷◌, reverse}
use Rattle.std.specs.Prelude.{length, take, ℤ, pos, Some, None, Ok, Err, Option, Result}
use Rattle.machine.specs.Steps.{Outcome, stopped, at_place, taking, nearest_frame}
use Rattle.machine.specs.declared.answers.End.{End}
use Rattle.machine.specs.declared.answers.Stop.TheVariants.{OutsideMemory}
use Rattle.machine.specs.declared.parts.Labelled.{Labelled}
use Rattle.machine.specs.declared.parts.Frame.{Frame as ReturnFrame}
use Rattle.machine.specs.declared.parts.Entry.{Entry}
use Rattle.machine.specs.declared.parts.Entry.TheVariants.{Number, Frame}
use Rattle.steps.specs.declared.walks.Found.{Found}

-- The first n elements of a lent part, the newest first: a stack of depth n.
abbrev pub newest : {A : Type 0} → ℕ → List A → List A
newest n part = reverse (take n part)

-- the element at a place and its index, or none outside
abbrev pub Finds : {A : Type 0} → List A → ℤ → Option (Found (Bor A)) → Type 0
Finds part place None = at_place part place None Some ≡ None
Finds part place (Some found) =
    (place ≡ pos found.index) × (found.index < length part) × (at_place part place None Some ≡ Some found.element.now)

module _ {L : Type 0} where
  abbrev pub is_number : Entry L → Bool
  is_number (Number a) = true
  is_number (Frame f) = false

  -- how many numbers lie above the nearest frame
  abbrev pub numbers_on_top : List (Entry L) → ℕ
  numbers_on_top [] = 0
  numbers_on_top (Number a ∷ rest) = suc (numbers_on_top rest)
  numbers_on_top (Frame f ∷ rest) = 0

  -- a stack by its entries in use
  abbrev pub stack_of : List (Entry L) → List (Entry L)
  stack_of used = newest (length used) used

  -- The number that is taken from the top of a stack, or the end where there is none, whatever is done then.
  abbrev pub TakesTop : List (Entry L) → Result (Labelled L) End → Type 0
  TakesTop used (Ok a) = (0 < length used) × ((then : Labelled L → List (Entry L) → Outcome L)
      → taking (stack_of used) then ≡ then a (newest (length used - 1) used))
  TakesTop used (Err end) = (then : Labelled L → List (Entry L) → Outcome L) → taking (stack_of used) then ≡ Err end

  -- The same for the two numbers on top, the lower one first.
  abbrev pub TakesTopTwo : List (Entry L) → Result (Labelled L × Labelled L) End → Type 0
  TakesTopTwo used (Ok two) = (1 < length used) × ((then : Labelled L → Labelled L → List (Entry L) → Outcome L)
      → taking (stack_of used) (λ a rest. taking rest (λ b rest. then b a rest))
      ≡ then two.0 two.1 (newest (length used - 2) used))
  TakesTopTwo used (Err end) = (then : Labelled L → Labelled L → List (Entry L) → Outcome L)
      → taking (stack_of used) (λ a rest. taking rest (λ b rest. then b a rest)) ≡ Err end

  -- The cell at an address and its index, or the end where there is none, whatever is done then.
  abbrev pub FindsCell : List (Labelled L) → ℤ → Result (Found (Labelled L)) End → Type 0
  FindsCell memory address (Ok found) =
      (address ≡ pos found.index) × (found.index < length memory)
      × ((then : Labelled L → Outcome L) → at_place memory address (stopped OutsideMemory) then ≡ then found.element)
  FindsCell memory address (Err end) =
      (then : Labelled L → Outcome L) → at_place memory address (stopped OutsideMemory) then ≡ Err end

  -- The nearest frame of a stack and its index, or the end where there is none, whatever is done then.
  abbrev pub FindsFrame : List (Entry L) → Result (Found (ReturnFrame L)) End → Type 0
  FindsFrame used (Ok found) = (found.index < length used) × ((then : ReturnFrame L → List (Entry L) → Outcome L)
      → nearest_frame (stack_of used) then ≡ then found.element (newest found.index used))
  FindsFrame used (Err end) =
      (then : ReturnFrame L → List (Entry L) → Outcome L)
      → nearest_frame (stack_of used) then ≡ Err end
