-- The question for the next command finds the first one from the place on that is at or below the clearance.
use Rattle.std.proofs.Common.{◌≡◌, ℕ, zero, suc, ◌+◌, ◌<◌, ◌≤◌, Bool, true, false, cond}
use Rattle.std.proofs.Common.{List, [], ◌∷◌, drop, Some, None, Option, refl, subst, arith}
use Rattle.labels.specs.Kind.{Kind}
use Rattle.machine.specs.Laws.{command_at, First, NextIsFirst}
use Rattle.machine.specs.Calls.{misfit}
use Rattle.machine.specs.Stations.{Answer, found, refused}
use Rattle.machine.specs.Stations.{fitting, commands_of, first_below, reply}
use Rattle.machine.specs.declared.answers.Part.{Part}
use Rattle.machine.specs.declared.answers.Refusal.TheVariants.{Length}
use Rattle.machine.specs.declared.calls.Call.TheVariants.{NextCommand}
use Rattle.machine.specs.declared.parts.Labelled.{Labelled}

module _ {L : Type 0} (kind : Kind L) (clearance : L) where
  abbrev Low : Labelled L → Type 0
  Low v = kind.below v.label clearance ≡ true

  abbrev High : Labelled L → Type 0
  High v = kind.below v.label clearance ≡ false

  -- the same for a list that begins at place `start`, with places counted within it
  data Found (xs : List (Labelled L)) (from start : ℕ) : Option ℕ → Type 0 where
    no_place : ((i : ℕ) (v : Labelled L) → from ≤ i → command_at kind xs i ≡ Some v → High v) → Found xs from start None
    one_place : {n : ℕ} (i : ℕ) (v : Labelled L) → n ≡ start + i → from ≤ i → command_at kind xs i ≡ Some v → Low v
        → ((j : ℕ) (w : Labelled L) → from ≤ j → j < i → command_at kind xs j ≡ Some w → High w)
        → Found xs from start (Some n)

  -- a label that is known of the command at a place
  only : {x v : Labelled L} → High x → Some x ≡ Some v → High v
  only {x} {v} h e =
      subst
      (λ (y : Option (Labelled L)). elim y as (λ _. Type 0) [ None ↦ Unit {0} | Some w ↦ High w ]) e
      h

  -- one element more in front, which is not asked for or is not low
  in_front : {x : Labelled L} {xs : List (Labelled L)} {from start : ℕ} (from' : ℕ) {found : Option ℕ}
      → ((v : Labelled L) → from' ≤ 0 → Some x ≡ Some v → High v)
      → from' ≤ suc from → ((i : ℕ) → from' ≤ suc i → from ≤ i) → Found xs from (suc start) found
      → Found (x ∷ xs) from' start found
  in_front {x} {xs} from' head near shift (no_place none) = no_place later
    where
      later : (i : ℕ) (v : Labelled L) → from' ≤ i → command_at kind (x ∷ xs) i ≡ Some v → High v
      later zero v h e = head v h e
      later (suc i) v h e = none i v (shift i h) e
  in_front {x} {xs} from' head near shift (one_place i v n h c is before) =
      one_place (suc i) v (omega arith) (omega arith) c is earlier
    where
      earlier : (j : ℕ) (w : Labelled L) → from' ≤ j → j < suc i → command_at kind (x ∷ xs) j ≡ Some w → High w
      earlier zero w g k e = head w g e
      earlier (suc j) w g k e = before j w (shift j g) (omega arith) e

  -- the first element, which is asked for
  tested : {x : Labelled L} {xs : List (Labelled L)} {start n : ℕ} (b : Bool) → kind.below x.label clearance ≡ b
      → n ≡ start + 0
      → {found : Option ℕ} → Found xs 0 (suc start) found → Found (x ∷ xs) 0 start (cond b (Some n) found)
  tested true low e f = one_place 0 _ e (omega arith) refl low (λ j w _ h _. absurd (omega arith))
  tested false high e f = in_front 0 (λ v _ e. only high e) (omega arith) (λ i _. omega arith) f

  no_command : {from start : ℕ} → Found [] from start None
  no_command = no_place (λ i v h e. absurd (cc))

  searched : (xs : List (Labelled L)) (from start n : ℕ) → n ≡ start + from
      → Found xs from start (first_below kind clearance n (drop from xs))
  searched [] zero start n e = no_command
  searched [] (suc from) start n e = no_command
  searched (x ∷ xs) zero start n e =
      tested (kind.below x.label clearance) refl e
      (searched xs zero (suc start) (suc n) (omega arith))
  searched (x ∷ xs) (suc from) start n e =
      in_front (suc from) (λ v h _. absurd (omega arith)) (omega arith) (λ i h. omega arith)
      (searched xs from (suc start) n (omega arith))

  first : {xs : List (Labelled L)} {from : ℕ} {found : Option ℕ} → Found xs from 0 found
      → First kind xs from clearance found
  first (no_place none) = none
  first {xs} {from} (one_place {n} i v e h c low before) =
      let at : i ≡ n = omega arith in
      subst
      (λ (n : ℕ). First kind xs from clearance (Some n)) at (record {
        from_on = h;
        there = (v, c, low);
        none_before = before;
      })

pub next_is_first : {L : Type 0} (kind : Kind L) → NextIsFirst kind
next_is_first {L} kind setup st lens table from clearance next e =
    subst (λ (x : Answer L). Finds x) e (fits (misfit setup.sizes (NextCommand from clearance) lens))
  where
    -- what an answer found, if it found anything, is the first
    Finds : Answer L → Type 0
    Finds x = elim x as (λ _. Type 0) [ found y ↦ First kind (commands_of st) from clearance y | _ ↦ Unit {0} ]

    fits : (x : Option Part)
        → Finds (fitting x (λ part. refused (Length part)) (reply kind setup table st (NextCommand from clearance)))
    fits None = first kind clearance (searched kind clearance (commands_of st) from 0 from (omega arith))
    fits (Some part) = tt
