-- A station and its calls: what each answers and does.
use Rattle.std.specs.Prelude.{ℕ, zero, suc, cond, List, [], ◌∷◌, drop, ℤ, pos, Some}
use Rattle.std.specs.Prelude.{None, Ok, Err, Option, Result, IsTrue, slice_set}
use Rattle.labels.specs.Kind.{Kind}
use Rattle.rules.specs.Tables.{Table}
use Rattle.machine.specs.Calls.{LentCall, is_idle, is_running, is_taken, misfit}
use Rattle.machine.specs.Numbers.{outside_limits}
use Rattle.machine.specs.Steps.{Setup, Kept, Round, Contents, Outcome, lengths, element, step}
use Rattle.machine.specs.declared.answers.End.TheVariants.{Finished, OutOfFuel, Stopped}
use Rattle.machine.specs.declared.answers.Part.{Part}
use Rattle.machine.specs.declared.answers.Refusal.{Refusal}
use Rattle.machine.specs.declared.answers.Refusal.TheVariants.{Limits, Length, Cell, Clearance}
use Rattle.machine.specs.declared.answers.Stop.{Stop}
use Rattle.machine.specs.declared.calls.Call.{Call}
use Rattle.machine.specs.declared.calls.Call.TheVariants.{Enter, Look, Start, Go, NextCommand}
use Rattle.machine.specs.declared.calls.State.{State}
use Rattle.machine.specs.declared.calls.State.TheVariants as state
use Rattle.machine.specs.declared.parts.Labelled.{Labelled}

-- A station is idle, running, or shut by a stop at a place.
pub data Station (L : Type 0) : Type 0 where
  idle : Kept L → Station L
  running : Round L → Station L
  shut : Stop → ℤ → Kept L → Station L

-- What a call answers. A go answers the steps that it took; whether it finished, runs on or was stopped is the
-- state after it.
pub data Answer (L : Type 0) : Type 0 where
  granted : Answer L
  shows : Labelled L → Answer L
  took : ℕ → Answer L
  found : Option ℕ → Answer L
  refused : Refusal → Answer L

-- a go: the station that it leaves, and the steps that it took
pub record Gone (L : Type 0) : Type 0 where
  pub station : Station L
  pub steps : ℕ

-- `then` if no part is wrong; `else part` for the first that is.
abbrev pub fitting : {A : Type 0} → Option Part → (Part → A) → A → A
fitting None else then = then
fitting (Some part) else then = else part

module _ {L : Type 0} where
  abbrev pub state_of : Station L → State
  state_of (idle kept) = state.Idle
  state_of (running s) = state.Running
  state_of (shut stop place kept) = state.Shut stop place

  abbrev pub kept_by : Station L → Kept L
  kept_by (idle kept) = kept
  kept_by (running s) = s.kept
  kept_by (shut stop place kept) = kept

  abbrev pub memory_of : Station L → List (Labelled L)
  memory_of st = (kept_by st).memory

  abbrev pub commands_of : Station L → List (Labelled L)
  commands_of st = (kept_by st).commands

  abbrev pub Idle : Station L → Type 0
  Idle st = IsTrue (is_idle (state_of st))

  abbrev pub Running : Station L → Type 0
  Running st = IsTrue (is_running (state_of st))

  -- A made station is idle and has no commands.
  abbrev pub made : List (Labelled L) → Station L
  made memory = idle (record { memory = memory; commands = [] })

  -- Making is refused with 1 if a part is outside its limits.
  abbrev pub make : Contents L → Result (Station L) Refusal
  make parts = fitting (outside_limits (lengths parts)) (λ part. Err (Limits part)) (Ok (made parts.memory))

  -- The station is in a state that takes the call.
  abbrev pub Takes : Station L → Call L → Type 0
  Takes st call = IsTrue (is_taken call (state_of st))

  -- Enter writes a cell whatever label was there.
  abbrev pub entered : ℕ → Labelled L → Station L → Station L
  entered cell v (idle kept) = idle (record { memory = slice_set kept.memory cell v; commands = kept.commands })
  entered cell v st = st

  -- What a go comes to once a step came to this. After an operation done the go goes on.
  abbrev pub settled : Round L → Outcome L → (Round L → Gone L) → Gone L
  settled s (Err Finished) on = record { station = idle s.kept; steps = 0 }
  settled s (Err OutOfFuel) on = record { station = running s; steps = 0 }
  settled s (Err (Stopped stop)) on = record { station = shut stop s.pc s.kept; steps = 0 }
  settled s (Ok s') on = record { station = (on s').station; steps = suc (on s').steps }

module _ {L : Type 0} (kind : Kind L) where
  open kind use {below, bottom}

  -- A start: the program counter at 0, its label bottom, the stack empty. The commands go on.
  abbrev pub started : Station L → Station L
  started (idle kept) = running (record { pc = pos 0; pc_label = bottom; stack = []; kept = kept })
  started st = st

  -- The place of the first command at or below the clearance, where the list begins at place n.
  abbrev pub first_below : L → ℕ → List (Labelled L) → Option ℕ
  first_below clearance n [] = None
  first_below clearance n (v ∷ commands) =
      cond (below v.label clearance) (Some n) (first_below clearance (suc n) commands)

  -- what a look with a clearance answers of a cell
  abbrev pub looked : L → Labelled L → Answer L
  looked clearance v = cond (below v.label clearance) (shows v) (refused Clearance)

  module _ (setup : Setup L) where
    -- Steps until one finishes, is stopped or finds no fuel. With no fuel no operation is done, so nothing goes
    -- on from there.
    abbrev pub run_steps : Table L → ℕ → Round L → Gone L
    run_steps table zero s = settled s (step kind table setup zero s) (λ s'. record { station = running s'; steps = 0 })
    run_steps table (suc fuel) s = settled s (step kind table setup (suc fuel) s) (run_steps table fuel)

    -- a go, which a running station takes
    abbrev pub gone : Table L → ℕ → Station L → Gone L
    gone table fuel (running s) = run_steps table fuel s
    gone table fuel st = record { station = st; steps = 0 }

    -- What a call answers if every part handed in is as long as when made. It means something only where the
    -- state takes the call.
    abbrev pub reply : Table L → Station L → Call L → Answer L
    reply table st (Enter cell v) = element (memory_of st) cell (refused Cell) (λ _. granted)
    reply table st (Look cell clearance) = element (memory_of st) cell (refused Cell) (looked clearance)
    reply table st Start = granted
    reply table st (Go fuel) = took (gone table fuel st).steps
    reply table st (NextCommand from clearance) = found (first_below clearance from (drop from (commands_of st)))

    -- What a call does then: an enter, a start and a go, and no other call does anything.
    abbrev pub effect : Table L → Station L → Call L → Station L
    effect table st (Enter cell v) = entered cell v st
    effect table st Start = started st
    effect table st (Go fuel) = (gone table fuel st).station
    effect table st call = st

    -- What a call answers, and the station after it. With a part of the wrong length it is refused with 2 and
    -- nothing changes.
    abbrev pub answer : Station L → LentCall L → Answer L
    answer st made =
        fitting (misfit setup.sizes made.call made.lens) (λ part. refused (Length part))
        (reply made.table st made.call)

    abbrev pub after : Station L → LentCall L → Station L
    after st made = fitting (misfit setup.sizes made.call made.lens) (λ _. st) (effect made.table st made.call)

    -- the station after a list of calls
    abbrev pub after_all : Station L → List (LentCall L) → Station L
    after_all st [] = st
    after_all st (made ∷ calls) = after_all (after st made) calls

    -- Each call is made in a state that takes it.
    abbrev pub Allowed : Station L → List (LentCall L) → Type 0
    Allowed st [] = Unit {0}
    Allowed st (made ∷ calls) = Takes st made.call × Allowed (after st made) calls
