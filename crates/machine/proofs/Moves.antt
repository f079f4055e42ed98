-- Calls taken apart into moves: an input, which is an enter or a start, or one step of a go.
use Rattle.std.proofs.Common.{◌≡◌, ℕ, zero, suc, true, List, [], ◌∷◌, ◌++◌, ℤ}
use Rattle.std.proofs.Common.{Some, None, Option, sym, refl, ap, ◌∙◌, subst, arith}
use Rattle.labels.specs.Kind.{Kind}
use Rattle.rules.specs.Tables.{Table, Same}
use Rattle.machine.specs.Calls.{Input, enters, starts, LentCall, facts, misfit}
use Rattle.machine.specs.Observer.{struck, AllUnder}
use Rattle.machine.specs.Stations.{Station, idle, running, shut, fitting, Idle, Takes, entered, settled}
use Rattle.machine.specs.Stations.{started, run_steps, gone, effect, after, after_all, Allowed}
use Rattle.machine.specs.Steps.{Setup, Kept, Round, Outcome, step}
use Rattle.machine.specs.declared.answers.Part.{Part}
use Rattle.machine.specs.declared.answers.Stop.{Stop}
use Rattle.machine.specs.declared.calls.Call.{Call}
use Rattle.machine.specs.declared.calls.Call.TheVariants.{Enter, Start, Go}
use Rattle.machine.specs.declared.parts.Labelled.{Labelled}
use Rattle.machine.proofs.Changes.{ComesTo, to_finish, to_later, to_stop, to_done, step_comes_to}
use Rattle.machine.proofs.SideBySide.{settle}

pub data Move (L : Type 0) : Type 0 where
  input : Input L → Move L
  turn : Table L → ℕ → Move L

module _ {L : Type 0} where
  -- the inputs among some moves
  abbrev pub inputs_of : List (Move L) → List (Input L)
  inputs_of [] = []
  inputs_of (input i ∷ moves) = i ∷ inputs_of moves
  inputs_of (turn table fuel ∷ moves) = inputs_of moves

  -- the steps of a go, each with the fuel left at it
  abbrev turns : Table L → ℕ → List (Move L) → List (Move L)
  turns table zero moves = turn table zero ∷ moves
  turns table (suc fuel) moves = turn table (suc fuel) ∷ turns table fuel moves

  abbrev inputs_before : List (Input L) → List (Move L) → List (Move L)
  inputs_before [] moves = moves
  inputs_before (i ∷ is) moves = input i ∷ inputs_before is moves

  -- The moves of a call before others: the steps of a go, and else the inputs that the call stands for.
  abbrev moves_of : Table L → Call L → List (Move L) → List (Move L)
  moves_of table (Go fuel) moves = turns table fuel moves
  moves_of table call moves = inputs_before (facts call).inputs moves

  turns_inputs : (table : Table L) (fuel : ℕ) (moves : List (Move L))
      → inputs_of (turns table fuel moves) ≡ inputs_of moves
  turns_inputs table zero moves = refl
  turns_inputs table (suc fuel) moves = turns_inputs table fuel moves

  moves_inputs : (table : Table L) (call : Call L) (moves : List (Move L))
      → inputs_of (moves_of table call moves) ≡ (facts call).inputs ++ inputs_of moves
  moves_inputs table (Go fuel) moves = turns_inputs table fuel moves
  moves_inputs table call moves = refl

module _ {L : Type 0} (kind : Kind L) where
  abbrev pub taken_in : Station L → Input L → Station L
  taken_in st (enters cell v) = entered cell v st
  taken_in st starts = started kind st

module _ {L : Type 0} (kind : Kind L) (setup : Setup L) where
  abbrev pub moved : Station L → Move L → Station L
  moved st (input i) = taken_in kind st i
  moved (running s) (turn table fuel) = settle s (step kind table setup fuel s)
  moved st (turn table fuel) = st

  abbrev pub run : Station L → List (Move L) → Station L
  run st [] = st
  run st (move ∷ moves) = run (moved st move) moves

  -- inputs are made on idle stations, and steps under these rows
  abbrev pub Ready : Table L → Station L → List (Move L) → Type 0
  Ready rows st [] = Unit {0}
  Ready rows st (input i ∷ moves) = Idle st × Ready rows (moved st (input i)) moves
  Ready rows st (turn table fuel ∷ moves) = Same rows table × Ready rows (moved st (turn table fuel)) moves

  abbrev pub flat : List (LentCall L) → List (Move L)
  flat [] = []
  flat (made ∷ calls) =
      fitting (misfit setup.sizes made.call made.lens) (λ _. flat calls) (moves_of made.table made.call (flat calls))

  -- a shut station stays as it is
  pub run_shut : (stop : Stop) (place : ℤ) (kept : Kept L) (moves : List (Move L))
      → run (shut stop place kept) moves ≡ shut stop place kept
  run_shut stop place kept [] = refl
  run_shut stop place kept (input (enters cell v) ∷ moves) = run_shut stop place kept moves
  run_shut stop place kept (input starts ∷ moves) = run_shut stop place kept moves
  run_shut stop place kept (turn table fuel ∷ moves) = run_shut stop place kept moves

  -- the steps of a go leave an idle station alone, and do to a running one what the go does
  module _ (table : Table L) (moves : List (Move L)) where
    idle_turns : (fuel : ℕ) (kept : Kept L) → run (idle kept) (turns table fuel moves) ≡ run (idle kept) moves
    idle_turns zero kept = refl
    idle_turns (suc fuel) kept = idle_turns fuel kept

    shut_turns : (fuel : ℕ) (stop : Stop) (place : ℤ) (kept : Kept L)
        → run (shut stop place kept) (turns table fuel moves) ≡ run (shut stop place kept) moves
    shut_turns fuel stop place kept =
        run_shut stop place kept (turns table fuel moves) ∙ sym (run_shut stop place kept moves)

    steps_run : (fuel : ℕ) (s : Round L)
        → run (running s) (turns table fuel moves) ≡ run (run_steps kind setup table fuel s).station moves
    steps_run zero s = refl
    steps_run (suc fuel) s = from (steps_run fuel) (step_comes_to kind table setup (suc fuel) s)
      where
        from : ((s' : Round L)
            → run (running s') (turns table fuel moves)
            ≡ run (run_steps kind setup table fuel s').station moves)
            → {x : Outcome L} → ComesTo table setup (suc fuel) s x
            → run (settle s x) (turns table fuel moves)
            ≡ run (settled s x (run_steps kind setup table fuel)).station moves
        from further to_finish = idle_turns fuel s.kept
        from further (to_later e) = absurd (omega arith)
        from further to_stop = shut_turns fuel _ s.pc s.kept
        from further (to_done {s'} e f) = further s'

    gone_run : (fuel : ℕ) (st : Station L)
        → run st (turns table fuel moves) ≡ run (gone kind setup table fuel st).station moves
    gone_run fuel (idle kept) = idle_turns fuel kept
    gone_run fuel (running s) = steps_run fuel s
    gone_run fuel (shut stop place kept) = shut_turns fuel stop place kept

  -- the moves of calls do what the calls do
  pub run_flat : (st : Station L) (calls : List (LentCall L)) → run st (flat calls) ≡ after_all kind setup st calls
  run_flat st [] = refl
  run_flat st (made ∷ calls) =
      fits (misfit setup.sizes made.call made.lens) ∙ run_flat (after kind setup st made) calls
    where
      moves : (call : Call L)
          → run st (moves_of made.table call (flat calls)) ≡ run (effect kind setup made.table st call) (flat calls)
      moves (Go fuel) = gone_run made.table (flat calls) fuel st
      moves call = refl

      fits : (x : Option Part)
          → run st (fitting x (λ _. flat calls) (moves_of made.table made.call (flat calls)))
          ≡ run (fitting x (λ _. st) (effect kind setup made.table st made.call)) (flat calls)
      fits None = moves made.call
      fits (Some part) = refl

  -- their inputs are those that are left of the calls
  pub inputs_flat : (calls : List (LentCall L)) → inputs_of (flat calls) ≡ struck setup.sizes calls
  inputs_flat [] = refl
  inputs_flat (made ∷ calls) = fits (misfit setup.sizes made.call made.lens) (inputs_flat calls)
    where
      fits : (x : Option Part) → inputs_of (flat calls) ≡ struck setup.sizes calls
          → inputs_of (fitting x (λ _. flat calls) (moves_of made.table made.call (flat calls)))
          ≡ fitting x (λ _. []) (facts made.call).inputs ++ struck setup.sizes calls
      fits None e = moves_inputs made.table made.call (flat calls) ∙ ap (λ r. (facts made.call).inputs ++ r) e
      fits (Some part) e = e

  module _ (rows : Table L) where
    turns_ready : (table : Table L) → Same rows table → (fuel : ℕ) (st : Station L) (moves : List (Move L))
        → Ready rows (run st (turns table fuel [])) moves → Ready rows st (turns table fuel moves)
    turns_ready table same zero st moves h = (same, h)
    turns_ready table same (suc fuel) st moves h =
        (same, turns_ready table same fuel (moved st (turn table (suc fuel))) moves h)

    -- and they are ready where the calls are proper
    pub ready_flat : (st : Station L) (calls : List (LentCall L)) → Allowed kind setup st calls
        → AllUnder kind rows calls
        → Ready rows st (flat calls)
    ready_flat st [] allowed under = tt
    ready_flat st (made ∷ calls) allowed under =
        fits (misfit setup.sizes made.call made.lens) (ready_flat (after kind setup st made) calls allowed.1 under.1)
      where
        moves : (call : Call L) → Takes st call → ((facts call).asks ≡ true → Same rows made.table)
            → Ready rows (effect kind setup made.table st call) (flat calls)
            → Ready rows st (moves_of made.table call (flat calls))
        moves (Enter cell v) takes p h = (takes, h)
        moves Start takes p h = (takes, h)
        moves (Go fuel) takes p h =
            turns_ready made.table (p refl) fuel st (flat calls)
            (subst (λ (st' : Station L). Ready rows st' (flat calls)) (sym (gone_run made.table [] fuel st)) h)
        moves call takes p h = h

        fits : (x : Option Part)
            → Ready rows (fitting x (λ _. st) (effect kind setup made.table st made.call))
            (flat calls)
            → Ready rows st (fitting x (λ _. flat calls) (moves_of made.table made.call (flat calls)))
        fits None h = moves made.call allowed.0 under.0 h
        fits (Some part) h = h

  -- What an enter, a start and a step keep, all calls keep.
  pub record Invariant (P : Station L → Type 0) : Type 0 where
    pub entering : (kept : Kept L) (cell : ℕ) (v : Labelled L) → P (idle kept) → P (entered cell v (idle kept))
    pub starting : (kept : Kept L) → P (idle kept) → P (started kind (idle kept))
    pub stepping : (table : Table L) (fuel : ℕ) (s : Round L) → P (running s)
        → P (settle s (step kind table setup fuel s))

  module _ {P : Station L → Type 0} (inv : Invariant P) where
    pub moved_keeps : (st : Station L) (move : Move L) → P st → P (moved st move)
    moved_keeps (idle kept) (input (enters cell v)) h = inv.entering kept cell v h
    moved_keeps (idle kept) (input starts) h = inv.starting kept h
    moved_keeps (idle kept) (turn table fuel) h = h
    moved_keeps (running s) (input (enters cell v)) h = h
    moved_keeps (running s) (input starts) h = h
    moved_keeps (running s) (turn table fuel) h = inv.stepping table fuel s h
    moved_keeps (shut stop place kept) (input (enters cell v)) h = h
    moved_keeps (shut stop place kept) (input starts) h = h
    moved_keeps (shut stop place kept) (turn table fuel) h = h

    pub run_keeps : (st : Station L) (moves : List (Move L)) → P st → P (run st moves)
    run_keeps st [] h = h
    run_keeps st (move ∷ moves) h = run_keeps (moved st move) moves (moved_keeps st move h)

    pub calls_keep : (st : Station L) (calls : List (LentCall L)) → P st → P (after_all kind setup st calls)
    calls_keep st calls h = subst P (run_flat st calls) (run_keeps st (flat calls) h)
