-- What an operation and a step in code do, in the words of the definitions.
use Rattle.std.specs.Prelude.{◌≡◌, ℕ, zero, suc, ◌≤◌, List, ◌++◌, length, ℤ, ◌⊎◌}
use Rattle.std.specs.Prelude.{Some, None, Ok, Err, Option, Result, IfOk, OnErr}
use Rattle.rules.specs.Tables.{Table}
use Rattle.rules.specs.declared.Policy.{Ghosts as Policy}
use Rattle.rules.specs.declared.Request.{Request}
use Rattle.rules.specs.declared.Verdict.{Verdict}
use Rattle.machine.specs.Steps.{Setup, Round, Contents, Outcome, made_of, ruled}
use Rattle.machine.specs.declared.answers.End.{End}
use Rattle.machine.specs.declared.answers.End.TheVariants.{Stopped}
use Rattle.machine.specs.declared.answers.Stop.TheVariants.{Forbidden}
use Rattle.machine.specs.declared.parts.Labelled.{Labelled}
use Rattle.machine.specs.declared.parts.Entry.{Entry}
use Rattle.steps.specs.Walks.{newest}
use Rattle.steps.specs.Windows.{kept}
use Rattle.steps.specs.declared.registers.Registers.{Registers}
use Rattle.steps.specs.declared.registers.Fetched.{Fetched}
use Rattle.steps.specs.declared.window.Window.{Window}

module _ {L : Type 0} where
  -- registers by their fields
  abbrev pub registers_at : ℤ → L → ℕ → Window → Registers L
  registers_at pc label depth window = record { pc = pc; pc_label = label; depth = depth; window = window }

  -- registers with so many entries in use
  abbrev pub starting : Registers L → ℕ → Registers L
  starting start depth = registers_at start.pc start.pc_label depth start.window

  -- The registers at an operation of the program; the entries in use are handed to the operation.
  abbrev pub placed : Fetched L → ℕ → Registers L
  placed f depth = registers_at f.pc.number f.pc_label depth f.window

  -- Registers with the parts that are lent, as the running station that the definitions speak of.
  abbrev pub round : Registers L → Contents L → Round L
  round r parts = record {
    pc = r.pc;
    pc_label = r.pc_label;
    stack = newest r.depth parts.stack;
    kept = kept r.window parts;
  }

  -- No more entries and commands are in use than stack and log hold.
  pub record InUse (r : Registers L) (parts : Contents L) : Type 0 where
    pub depth : r.depth ≤ length parts.stack
    pub commands : r.window.count ≤ length parts.log

  -- parts with other contents in one of them; of the stack alone the entries in use, with the rest beyond them
  abbrev pub with_memory : List (Labelled L) → Contents L → Contents L
  with_memory memory rest = record rest { memory = memory }

  abbrev pub with_stack : List (Entry L) → Contents L → Contents L
  with_stack stack rest = record rest { stack = stack }

  abbrev pub with_used : List (Entry L) → Contents L → Contents L
  with_used used rest = record rest { stack = used ++ rest.stack }

  abbrev pub with_log : List (Labelled L) → Contents L → Contents L
  with_log log rest = record rest { log = log }

  -- What was answered, as the outcome that the definitions speak of.
  abbrev pub outcome : Result (Registers L) End → Contents L → Outcome L
  outcome (Ok r) parts = Ok (round r parts)
  outcome (Err end) parts = Err end

  -- a verdict, or the end where the policy forbids, whatever is done then
  abbrev pub Rules : Option (Verdict L) → Result (Verdict L) End → Type 0
  Rules answer (Ok v) = (then : L → L → Outcome L) → ruled answer then ≡ then v.pc v.result
  Rules answer (Err end) = (then : L → L → Outcome L) → ruled answer then ≡ Err end

  -- What a policy answered was heeded: a verdict where something came of it, and none where it is forbidden.
  abbrev pub Heeded : {A : Type 0} → Result A End → Option (Verdict L) → Type 0
  Heeded (Ok x) (Some v) = Unit {0}
  Heeded (Ok x) None = ⊥
  Heeded (Err end) (Some v) = ⊥
  Heeded (Err end) None = end ≡ Stopped Forbidden

module _ {P L : Type 0} (policy : Policy P L) where
  -- The policy was not asked and is as it was, or it was asked once, and the answer was heeded.
  abbrev pub AtMostOnce : P → P → (Option (Verdict L) → Type 0) → Type 0
  AtMostOnce before after Heeds =
      (after ≡ before)
      ⊎ ((q : Request L)
      × ((answer : Option (Verdict L)) × (policy.asked before q answer after × Heeds answer)))

  -- The policy was asked so many times at most, one after the other.
  abbrev pub AtMost : ℕ → P → P → Type 0
  AtMost zero before after = after ≡ before
  AtMost (suc n) before after =
      (between : P) × (AtMost n before between × AtMostOnce between after (λ answer. Unit {0}))

  -- The policy is true to each table that it was true to.
  abbrev pub StaysTrue : P → P → Type 0
  StaysTrue before after = (table : Table L) → policy.faithful before table → policy.faithful after table

  -- What holds of every table that a policy was true to; it is true to these still, and was asked at most once.
  pub record AsksPolicy (before after : P) (Heeds : Option (Verdict L) → Type 0)
      (Holds : Table L → Type 0) : Type 0 where
    pub holds : (table : Table L) → policy.faithful before table → Holds table
    pub still : StaysTrue before after
    pub asks : AtMostOnce before after Heeds

  -- An operation or a step, with the policy and what the parts hold before and after it.
  pub record Steps (before after : P) (parts parts' : Contents L) (start : Registers L)
      (answer : Result (Registers L) End)
      (defined : Table L → Setup L → Round L → Outcome L) : Type 0 where
    -- over every table that the policy is true to it comes to what is defined
    pub comes_to : (table : Table L) → policy.faithful before table
        → outcome answer parts' ≡ defined table (made_of parts) (round start parts)
    -- whatever the policy, it stays true, and is asked at most once and heeded
    pub still : StaysTrue before after
    pub asks : AtMostOnce before after (Heeded answer)
    -- an end changes nothing, and what is in use of the parts fits
    pub keeps : OnErr answer (parts' ≡ parts)
    pub fits : IfOk answer (λ r. InUse r parts)

  -- An operation that is lent some of the parts, with whatever the rest holds.
  abbrev pub Operates : P → P → (Contents L → Contents L) → (Contents L → Contents L) → Registers L
      → Result (Registers L) End → (Table L → Setup L → Round L → Outcome L) → Type 0
  Operates before after lent lent' start answer defined =
      (rest : Contents L) → InUse start (lent rest) → Steps before after (lent rest) (lent' rest) start answer defined
