-- A go and its fuel: how many steps it takes, and that a go and then another are one go with the fuel of both.
use Rattle.std.proofs.Common.{◌≡◌, ℕ, zero, suc, ◌+◌, ◌≤◌, Bool, true, false, cond}
use Rattle.std.proofs.Common.{List, [], ◌∷◌, ℤ, pos, negsuc, refl, ap, subst, arith}
use Rattle.labels.specs.Kind.{Kind}
use Rattle.rules.specs.Tables.{Table}
use Rattle.machine.specs.Laws.{GoesAddUp, FuelSpent}
use Rattle.machine.specs.Stations.{Station, idle, running, shut, Running, Gone, settled, run_steps, gone}
use Rattle.machine.specs.Steps.{Setup, Round, Outcome, later, stopped, element, at_place, halts, attempt, step}
use Rattle.machine.specs.declared.answers.Stop.TheVariants.{OutsideProgram}
use Rattle.machine.specs.declared.parts.Operation.{Operation}
use Rattle.machine.proofs.Changes.{ComesTo, to_finish, to_later, to_stop, to_done, step_comes_to}

-- what a step comes to without fuel and with some: it only waits, or fuel makes no difference
data Waits {L : Type 0} : Outcome L → Outcome L → Type 0 where
  waits : {y : Outcome L} → Waits later y
  decided : {x : Outcome L} → Waits x x

-- the second go adds to the first
record Adds {L : Type 0} (first second whole : Gone L) : Type 0 where
  station : whole.station ≡ second.station
  steps : whole.steps ≡ first.steps + second.steps

module _ {L : Type 0} (kind : Kind L) (table : Table L) (setup : Setup L) where
  module _ (fuel : ℕ) (s : Round L) where
    attempt_waits : (b : Bool) (x y : Outcome L) → Waits (cond b x later) (cond b x y)
    attempt_waits true x y = decided
    attempt_waits false x y = waits

    element_waits : (ops : List (Operation L)) (i : ℕ)
        → Waits (element ops i (stopped OutsideProgram) (attempt kind table setup 0 s))
        (element ops i (stopped OutsideProgram) (attempt kind table setup fuel s))
    element_waits [] i = decided
    element_waits (op ∷ ops) zero = attempt_waits (halts op) _ _
    element_waits (op ∷ ops) (suc i) = element_waits ops i

    place_waits : (z : ℤ)
        → Waits (at_place setup.program z (stopped OutsideProgram) (attempt kind table setup 0 s))
        (at_place setup.program z (stopped OutsideProgram) (attempt kind table setup fuel s))
    place_waits (pos i) = element_waits setup.program i
    place_waits (negsuc i) = decided

    step_waits : Waits (step kind table setup 0 s) (step kind table setup fuel s)
    step_waits = place_waits s.pc

  -- how a go goes on after its first operation
  abbrev after_first : ℕ → Round L → Gone L
  after_first zero s = record { station = running s; steps = 0 }
  after_first (suc fuel) s = run_steps kind setup table fuel s

  steps_are : (fuel : ℕ) (s : Round L)
      → run_steps kind setup table fuel s ≡ settled s (step kind table setup fuel s) (after_first fuel)
  steps_are zero s = refl
  steps_are (suc fuel) s = refl

  -- what a go without fuel decides, a go with fuel decides at once
  none_adds : (g : ℕ) (s : Round L) {x y : Outcome L} → Waits x y → ComesTo table setup 0 s x
      → run_steps kind setup table g s ≡ settled s y (after_first g)
      → Adds (settled s x (after_first 0))
      (gone kind setup table g (settled s x (after_first 0)).station)
      (run_steps kind setup table g s)
  none_adds g s waits k e = record { station = refl; steps = omega arith }
  none_adds g s decided to_finish e = record { station = ap (λ x. x.station) e; steps = ap (λ x. x.steps) e }
  none_adds g s decided to_stop e = record { station = ap (λ x. x.station) e; steps = ap (λ x. x.steps) e }
  none_adds g s decided (to_later z) e = record { station = refl; steps = omega arith }
  none_adds g s decided (to_done z f) e = absurd (omega arith)

  steps_add : (f g n : ℕ) → n ≡ f + g → (s : Round L)
      → Adds (run_steps kind setup table f s)
      (gone kind setup table g (run_steps kind setup table f s).station)
      (run_steps kind setup table n s)
  steps_add zero g n e s =
      let same : g ≡ n = omega arith in
      subst
      (λ (n : ℕ). Adds (run_steps kind setup table 0 s)
      (gone kind setup table g (run_steps kind setup table 0 s).station)
      (run_steps kind setup table n s))
      same
      (none_adds g s (step_waits g s) (step_comes_to kind table setup 0 s) (steps_are g s))
  steps_add (suc f) g zero e s = absurd (omega arith)
  steps_add (suc f) g (suc n) e s = from (steps_add f g n (omega arith)) (step_comes_to kind table setup (suc f) s)
    where
      from : ((s : Round L)
          → Adds (run_steps kind setup table f s)
          (gone kind setup table g (run_steps kind setup table f s).station)
          (run_steps kind setup table n s))
          → {x : Outcome L} → ComesTo table setup (suc f) s x
          → Adds (settled s x (run_steps kind setup table f))
          (gone kind setup table g (settled s x (run_steps kind setup table f)).station)
          (settled s x (run_steps kind setup table n))
      from add to_finish = record { station = refl; steps = refl }
      from add (to_later e) = absurd (omega arith)
      from add to_stop = record { station = refl; steps = refl }
      from add (to_done {s'} e k) = record { station = (add s').station; steps = omega (arith, (add s').steps) }

  gone_adds : (f g : ℕ) (st : Station L)
      → Adds (gone kind setup table f st)
      (gone kind setup table g (gone kind setup table f st).station)
      (gone kind setup table (f + g) st)
  gone_adds f g (idle kept) = record { station = refl; steps = refl }
  gone_adds f g (running s) = steps_add f g (f + g) refl s
  gone_adds f g (shut stop place kept) = record { station = refl; steps = refl }

  -- the fuel that a go has used
  record Spent (fuel : ℕ) (g : Gone L) : Type 0 where
    at_most : g.steps ≤ fuel
    all : Running g.station → g.steps ≡ fuel

  steps_spent : (fuel : ℕ) (s : Round L) → Spent fuel (run_steps kind setup table fuel s)
  steps_spent zero s = from (step_comes_to kind table setup 0 s)
    where
      from : {x : Outcome L} → ComesTo table setup 0 s x → Spent 0 (settled s x (after_first 0))
      from to_finish = record { at_most = omega arith; all = λ r. cc r }
      from (to_later e) = record { at_most = omega arith; all = λ r. refl }
      from to_stop = record { at_most = omega arith; all = λ r. cc r }
      from (to_done e k) = absurd (omega arith)
  steps_spent (suc fuel) s = from (steps_spent fuel) (step_comes_to kind table setup (suc fuel) s)
    where
      from : ((s : Round L) → Spent fuel (run_steps kind setup table fuel s)) → {x : Outcome L}
          → ComesTo table setup (suc fuel) s x → Spent (suc fuel) (settled s x (run_steps kind setup table fuel))
      from rest to_finish = record { at_most = omega arith; all = λ r. cc r }
      from rest (to_later e) = absurd (omega arith)
      from rest to_stop = record { at_most = omega arith; all = λ r. cc r }
      from rest
          (to_done {s'} e k) = record {
            at_most = omega (arith, (rest s').at_most);
            all = λ r. ap suc ((rest s').all r);
          }

  gone_spent : (fuel : ℕ) (st : Station L) → Spent fuel (gone kind setup table fuel st)
  gone_spent fuel (idle kept) = record { at_most = omega arith; all = λ r. cc r }
  gone_spent fuel (running s) = steps_spent fuel s
  gone_spent fuel (shut stop place kept) = record { at_most = omega arith; all = λ r. cc r }

pub fuel_spent : {L : Type 0} (kind : Kind L) → FuelSpent kind
fuel_spent kind = record {
  at_most = λ setup table fuel st. (gone_spent kind table setup fuel st).at_most;
  all = λ setup table fuel st. (gone_spent kind table setup fuel st).all;
}

pub goes_add_up : {L : Type 0} (kind : Kind L) → GoesAddUp kind
goes_add_up kind = record {
  stations = λ setup table f g st. (gone_adds kind table setup f g st).station;
  steps = λ setup table f g st. (gone_adds kind table setup f g st).steps;
}
