-- The steps of a go: each goes on with the fuel that is left, or ends the go.
use Rattle.std.proofs.Common.{◌≡◌, ℕ, zero, suc, ◌+◌, ◌-◌, ◌<◌, ◌≤◌, length, Ok, Err}
use Rattle.std.proofs.Common.{Option, inl, refl, ap, ◌∙◌, subst, arith}
use Rattle.labels.specs.Kind.{Kind}
use Rattle.rules.specs.Tables.{Table}
use Rattle.rules.specs.declared.Policy.{Ghosts as Policy}
use Rattle.rules.specs.declared.Verdict.{Verdict}
use Rattle.machine.specs.Stations.{Station, running, Gone, settled, run_steps}
use Rattle.machine.specs.Steps.{Setup, Contents, Round, step, made_of}
use Rattle.machine.specs.declared.answers.End.{End}
use Rattle.machine.specs.declared.answers.End.TheVariants.{Finished, OutOfFuel, Stopped}
use Rattle.steps.specs.Operations.{AtMost, AtMostOnce}
use Rattle.steps.proofs.Doing.{once_as}
use Rattle.station.specs.Turns.{ended}

-- A policy that was asked at most so many times, and once more.
module _ {P L : Type 0} (policy : Policy P L) where
  pub asked_last : (before between after : P) (n : ℕ) {Heeds : Option (Verdict L) → Type 0}
      → AtMost policy n before between
      → AtMostOnce policy between after Heeds → AtMost policy (n + 1) before after
  asked_last before between after n so_far once =
      let one : suc n ≡ n + 1 = omega arith in
      subst (λ k. AtMost policy k before after) one (between, (so_far, once_as policy (λ _ _. tt) once))

  -- and not once more
  pub not_asked : (before after : P) (n k : ℕ) → n ≡ k → AtMost policy n before after
      → AtMost policy (k + 1) before after
  not_asked before after n k same so_far =
      let one : suc n ≡ k + 1 = omega (arith, same) in
      subst (λ i. AtMost policy i before after) one (after, (so_far, inl refl))

  pub asked_on : (before between after : P) (fuel left : ℕ) {Heeds : Option (Verdict L) → Type 0}
      → left ≤ fuel → 0 < left
      → AtMost policy (fuel - left) before between → AtMostOnce policy between after Heeds
      → AtMost policy (fuel - (left - 1)) before after
  asked_on before between after fuel left within some so_far once =
      let one : suc (fuel - left) ≡ fuel - (left - 1) = omega arith in
      subst (λ k. AtMost policy k before after) one (between, (so_far, once_as policy (λ _ _. tt) once))

-- Of a program and parts as long as they were a station is made the same.
pub same_made : {L : Type 0} (parts parts' : Contents L) → parts'.program ≡ parts.program
    → length parts'.memory ≡ length parts.memory
    → length parts'.stack ≡ length parts.stack → length parts'.log ≡ length parts.log → made_of parts' ≡ made_of parts
same_made parts parts' programs memories stacks logs = rw (programs, memories, stacks, logs) refl

module _ {L : Type 0} where
  abbrev pub gone_to : Station L → ℕ → Gone L
  gone_to st steps = record { station = st; steps = steps }

  -- a go after so many steps that came before
  abbrev pub after_more : ℕ → Gone L → Gone L
  after_more n gone = gone_to gone.station (n + gone.steps)

  settled_ends : (s : Round L) (end : End) (on : Round L → Gone L) → settled s (Err end) on ≡ gone_to (ended end s) 0
  settled_ends s Finished on = refl
  settled_ends s OutOfFuel on = refl
  settled_ends s (Stopped stop) on = refl

  module _ (kind : Kind L) (setup : Setup L) (table : Table L) where
    run_ends : (fuel : ℕ) (s : Round L) (end : End) → step kind table setup fuel s ≡ Err end
        → run_steps kind setup table fuel s ≡ gone_to (ended end s) 0
    run_ends zero s end came = ap (λ o. settled s o (λ s'. gone_to (running s') 0)) came ∙ settled_ends s end _
    run_ends (suc fuel) s end came = ap (λ o. settled s o (run_steps kind setup table fuel)) came ∙ settled_ends s end _

    -- Of a go with so much fuel, of which so much is left: a step that came to an end
    pub ends : (fuel left : ℕ) (start s : Round L) (end : End)
        → run_steps kind setup table fuel start
        ≡ after_more (fuel - left) (run_steps kind setup table left s)
        → step kind table setup left s ≡ Err end
        → run_steps kind setup table fuel start ≡ gone_to (ended end s) (fuel - left)
    ends fuel left start s end so_far came =
        so_far ∙ ap (after_more (fuel - left)) (run_ends left s end came) ∙ ap (gone_to (ended end s)) (omega arith)

    -- and one that did an operation.
    pub goes_on : (fuel left : ℕ) (start s s' : Round L)
        → run_steps kind setup table fuel start
        ≡ after_more (fuel - left) (run_steps kind setup table left s)
        → left ≤ fuel → 0 < left → step kind table setup left s ≡ Ok s'
        → run_steps kind setup table fuel start
        ≡ after_more (fuel - (left - 1)) (run_steps kind setup table (left - 1) s')
    goes_on fuel zero start s s' so_far within some came = absurd (omega arith)
    goes_on fuel (suc left) start s s' so_far within some came =
        let gone = run_steps kind setup table left s' in
        so_far ∙ ap (λ o. after_more (fuel - suc left) (settled s o (run_steps kind setup table left))) came
        ∙ ap (gone_to gone.station) (omega arith)
        ∙ ap (λ n. after_more (fuel - n) (run_steps kind setup table n s')) (omega arith)

    -- Of a go that has no fuel left
    pub rests : (fuel left : ℕ) (start s : Round L) (end : End)
        → run_steps kind setup table fuel start
        ≡ after_more (fuel - left) (run_steps kind setup table left s)
        → left ≡ 0 → step kind table setup 0 s ≡ Err end
        → run_steps kind setup table fuel start ≡ gone_to (ended end s) fuel
    rests fuel left start s end so_far none came =
        so_far ∙ ap (λ n. after_more (fuel - n) (run_steps kind setup table n s)) none
        ∙ ap (after_more (fuel - 0)) (run_ends 0 s end came)
        ∙ ap (gone_to (ended end s)) (omega arith)
