-- One step of a running station, over any table.
use Rattle.std.specs.Prelude.{ℕ, zero, suc, Bool, true, false, cond, List, [], ◌∷◌}
use Rattle.std.specs.Prelude.{◌++◌, length, ℤ, pos, negsuc, ◌+ℤ◌, ◌-ℤ◌, Some, None}
use Rattle.std.specs.Prelude.{Ok, Err, Option, Result, int_lt, nat_lt, slice_set}
use Rattle.std.specs.Int.{int_wrap, w32}
use Rattle.labels.specs.Kind.{Kind}
use Rattle.rules.specs.Tables.{Table, request}
use Rattle.rules.specs.declared.Opcode.{Opcode}
use Rattle.rules.specs.declared.Opcode.TheVariants as opcode
use Rattle.rules.specs.declared.Verdict.{Verdict}
use Rattle.machine.specs.declared.answers.End.{End}
use Rattle.machine.specs.declared.answers.End.TheVariants.{Finished, OutOfFuel, Stopped}
use Rattle.machine.specs.declared.answers.Stop.{Stop}
use Rattle.machine.specs.declared.answers.Stop.TheVariants.{OutsideProgram, TooFewNumbers}
use Rattle.machine.specs.declared.answers.Stop.TheVariants.{StackFull, OutsideMemory, Forbidden}
use Rattle.machine.specs.declared.answers.Stop.TheVariants.{NoFrame, LogFull, HaltAboveBottom}
use Rattle.machine.specs.declared.parts.Labelled.{Labelled}
use Rattle.machine.specs.declared.parts.Frame.{Frame as ReturnFrame}
use Rattle.machine.specs.declared.parts.Entry.{Entry}
use Rattle.machine.specs.declared.parts.Entry.TheVariants.{Number, Frame}
use Rattle.machine.specs.declared.parts.Operation.{Operation}
use Rattle.machine.specs.declared.parts.Operation.TheVariants.{Push, Pop, Noop, Add, Sub, Less, Load, Store}
use Rattle.machine.specs.declared.parts.Operation.TheVariants.{Jump, Bnz, Call, Return, Output, Halt}
use Rattle.machine.specs.declared.parts.Sizes.{Sizes}

infix 70 ◌at◌
-- the number n with the label l
abbrev pub ◌at◌ : {L : Type 0} → ℤ → L → Labelled L
n at l = record { value = n; label = l }

-- What stays the same for a station's whole life: its program, and how long its four parts are.
pub record Setup (L : Type 0) : Type 0 where
  pub program : List (Operation L)
  pub sizes : Sizes

-- What a station keeps from round to round: its memory, and every command since it was made, the oldest first.
pub record Kept (L : Type 0) : Type 0 where
  pub memory : List (Labelled L)
  pub commands : List (Labelled L)

-- A running station: the program counter and its label, the stack with the newest entry first, and what it keeps.
pub record Round (L : Type 0) : Type 0 where
  pub pc : ℤ
  pub pc_label : L
  pub stack : List (Entry L)
  pub kept : Kept L

-- What the four parts that are lent to a station hold.
pub record Contents (L : Type 0) : Type 0 where
  pub program : List (Operation L)
  pub memory : List (Labelled L)
  pub stack : List (Entry L)
  pub log : List (Labelled L)

module _ {L : Type 0} where
  abbrev pub contents : List (Operation L) → List (Labelled L) → List (Entry L) → List (Labelled L) → Contents L
  contents program memory stack log = record { program = program; memory = memory; stack = stack; log = log }

  -- What a station made of these four parts keeps in mind of them; of stack and log only the lengths matter.
  abbrev pub setup : List (Operation L) → List (Labelled L) → ℕ → ℕ → Setup L
  setup program memory stack log = record {
    program = program;
    sizes = record { program = length program; memory = length memory; stack = stack; log = log };
  }

  abbrev pub made_of : Contents L → Setup L
  made_of parts = setup parts.program parts.memory (length parts.stack) (length parts.log)

  -- how long the four parts are
  abbrev pub lengths : Contents L → Sizes
  lengths parts = (made_of parts).sizes

-- What a step comes to: an operation was done, with the round after it, or the go ends.
abbrev pub Outcome : Type 0 → Type 0
Outcome L = Result (Round L) End

module _ {L : Type 0} where
  abbrev pub done : Round L → Outcome L
  done s = Ok s

  abbrev pub finished : Outcome L
  finished = Err Finished

  abbrev pub later : Outcome L
  later = Err OutOfFuel

  abbrev pub stopped : Stop → Outcome L
  stopped stop = Err (Stopped stop)

-- Sums and differences are wrapped to 32 bits.
abbrev pub sum : ℤ → ℤ → ℤ
sum b a = int_wrap w32 (b +ℤ a)

abbrev pub difference : ℤ → ℤ → ℤ
difference b a = int_wrap w32 (b -ℤ a)

abbrev pub is_less : ℤ → ℤ → ℤ
is_less b a = cond (int_lt b a) (pos 1) (pos 0)

-- where a branch by k from place p goes, for the number n
abbrev pub branch : ℤ → ℤ → ℤ → ℤ
branch p k (pos zero) = p +ℤ pos 1
branch p k (pos (suc n)) = p +ℤ k
branch p k (negsuc n) = p +ℤ k

-- `then x` for the element x at place i of a list, counted from 0; `else` if it has no such place.
abbrev pub element : {A B : Type 0} → List A → ℕ → B → (A → B) → B
element [] i else then = else
element (x ∷ xs) zero else then = then x
element (x ∷ xs) (suc i) else then = element xs i else then

-- The same for a number that may be negative, which is outside every list.
abbrev pub at_place : {A B : Type 0} → List A → ℤ → B → (A → B) → B
at_place xs (pos i) else then = element xs i else then
at_place xs (negsuc i) else then = else

abbrev pub set_place : {A : Type 0} → List A → ℤ → A → List A
set_place xs (pos i) x = slice_set xs i x
set_place xs (negsuc i) x = xs

module _ {L : Type 0} where
  -- a condition, and the stop where it fails
  abbrev pub provided : Bool → Stop → Outcome L → Outcome L
  provided true stop x = x
  provided false stop x = stopped stop

  -- Takes the top number, which must lie above the nearest frame.
  abbrev pub taking : List (Entry L) → (Labelled L → List (Entry L) → Outcome L) → Outcome L
  taking [] then = stopped TooFewNumbers
  taking (Number a ∷ rest) then = then a rest
  taking (Frame f ∷ rest) then = stopped TooFewNumbers

  -- Takes k numbers, the top one first.
  abbrev pub taking_all : ℕ → List (Entry L) → (List (Labelled L) → List (Entry L) → Outcome L) → Outcome L
  taking_all zero stack then = then [] stack
  taking_all (suc k) stack then = taking stack λ a rest. taking_all k rest λ numbers under. then (a ∷ numbers) under

  -- Puts numbers on a stack, the first one on top.
  abbrev pub numbers_onto : List (Labelled L) → List (Entry L) → List (Entry L)
  numbers_onto [] stack = stack
  numbers_onto (a ∷ numbers) stack = Number a ∷ numbers_onto numbers stack

  -- Finds the nearest frame, and what lies below it.
  abbrev pub nearest_frame : List (Entry L) → (ReturnFrame L → List (Entry L) → Outcome L) → Outcome L
  nearest_frame [] then = stopped NoFrame
  nearest_frame (Number a ∷ rest) then = nearest_frame rest then
  nearest_frame (Frame f ∷ rest) then = then f rest

  -- What follows from a verdict: N is the new label of the program counter, R that of the result.
  abbrev pub ruled : Option (Verdict L) → (L → L → Outcome L) → Outcome L
  ruled None then = stopped Forbidden
  ruled (Some v) then = then v.pc v.result

  -- An operation done: the program counter, its label and the stack after it, with memory and commands as they were.
  abbrev pub goto : Round L → ℤ → L → List (Entry L) → Outcome L
  goto s pc N stack = done (record { pc = pc; pc_label = N; stack = stack; kept = s.kept })

  -- The same at the next place.
  abbrev pub next : Round L → L → List (Entry L) → Outcome L
  next s N stack = goto s (s.pc +ℤ pos 1) N stack

  -- The same with another memory or other commands.
  abbrev pub next_keeping : Round L → L → List (Entry L) → Kept L → Outcome L
  next_keeping s N stack kept = done (record { pc = s.pc +ℤ pos 1; pc_label = N; stack = stack; kept = kept })

  abbrev pub halts : Operation L → Bool
  halts Halt = true
  halts op = false

  -- Without fuel an operation is not tried.
  abbrev pub with_fuel : ℕ → Outcome L → Outcome L
  with_fuel zero x = later
  with_fuel (suc fuel) x = x

module _ {L : Type 0} (kind : Kind L) (table : Table L) (setup : Setup L) where
  open kind use {below, bottom}

  -- Asks the table about an operation with the labels A, B and C.
  abbrev pub asking : Opcode → Round L → L → L → L → (L → L → Outcome L) → Outcome L
  asking op s a b c then = ruled (table (request op s.pc_label a b c)) then

  -- two numbers to one
  abbrev pub arithmetic : Opcode → (ℤ → ℤ → ℤ) → Round L → Outcome L
  arithmetic op f s =
      taking s.stack λ a rest.
      taking rest λ b rest.
      asking op s a.label b.label bottom λ N R.
      next s N (Number (f b.value a.value at R) ∷ rest)

  -- A return to the frame f, below which `rest` lies. If a result is due, the top number goes back.
  abbrev pub return_to : Bool → ReturnFrame L → List (Entry L) → Round L → Outcome L
  return_to true f rest s =
      taking s.stack λ a _.
      asking opcode.Return s f.label a.label bottom λ N R.
      goto s f.place N (Number (a.value at R) ∷ rest)
  return_to false f rest s =
      asking opcode.Return s f.label bottom bottom λ N R.
      goto s f.place N rest

  -- At halt the round is finished if the label of the program counter is bottom.
  abbrev pub halted : Round L → Outcome L
  halted s = cond (below s.pc_label bottom) finished (stopped HaltAboveBottom)

  -- An operation tried. Labels that it does not use are bottom. (A halt is decided before it comes to this.)
  abbrev pub tried : Operation L → Round L → Outcome L
  tried (Push v) s =
      provided (nat_lt (length s.stack) setup.sizes.stack) StackFull
      (asking opcode.Push s v.label bottom bottom λ N R.
      next s N (Number (v.value at R) ∷ s.stack))
  tried Pop s =
      taking s.stack λ a rest.
      asking opcode.Pop s a.label bottom bottom λ N R.
      next s N rest
  tried Noop s =
      asking opcode.Noop s bottom bottom bottom λ N R.
      next s N s.stack
  tried Add s = arithmetic opcode.Add sum s
  tried Sub s = arithmetic opcode.Sub difference s
  tried Less s = arithmetic opcode.Less is_less s
  tried Load s =
      taking s.stack λ a rest.
      at_place s.kept.memory a.value (stopped OutsideMemory) λ cell.
      asking opcode.Load s a.label cell.label bottom λ N R.
      next s N (Number (cell.value at R) ∷ rest)
  tried Store s =
      taking s.stack λ a rest.
      taking rest λ b rest.
      at_place s.kept.memory a.value (stopped OutsideMemory) λ cell.
      asking opcode.Store s a.label b.label cell.label λ N R.
      next_keeping s N rest
      (record {
        memory = set_place s.kept.memory a.value (b.value at R);
        commands = s.kept.commands;
      })
  tried Jump s =
      taking s.stack λ a rest.
      asking opcode.Jump s a.label bottom bottom λ N R.
      goto s a.value N rest
  tried (Bnz k) s =
      taking s.stack λ a rest.
      asking opcode.Bnz s a.label bottom bottom λ N R.
      goto s (branch s.pc k a.value) N rest
  tried (Call k due) s =
      taking s.stack λ a rest.
      taking_all k rest λ numbers under.
      asking opcode.Call s a.label bottom bottom λ N R.
      goto s a.value N (numbers_onto numbers (Frame (record { place = s.pc +ℤ pos 1; due = due; label = R }) ∷ under))
  tried Return s =
      nearest_frame s.stack λ f rest.
      return_to f.due f rest s
  tried Output s =
      taking s.stack λ a rest.
      provided (nat_lt (length s.kept.commands) setup.sizes.log) LogFull
      (asking opcode.Output s a.label bottom bottom λ N R.
      next_keeping s N rest (record { memory = s.kept.memory; commands = s.kept.commands ++ (a.value at R) ∷ [] }))
  tried Halt s = halted s

  -- A halt is decided with or without fuel; any other operation is tried with fuel only.
  abbrev pub attempt : ℕ → Round L → Operation L → Outcome L
  attempt fuel s op = cond (halts op) (halted s) (with_fuel fuel (tried op s))

  -- One step with so much fuel left. So the tests come in this order: a place outside the program, a halt, no
  -- fuel left, and then those of the operation.
  abbrev pub step : ℕ → Round L → Outcome L
  step fuel s = at_place setup.program s.pc (stopped OutsideProgram) (attempt fuel s)
