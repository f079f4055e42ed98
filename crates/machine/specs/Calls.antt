-- The calls of a station: one table of what there is to know of each, apart from what it answers and does.
use Rattle.std.specs.Prelude.{ℕ, Bool, true, false, List, [], ◌∷◌, Option, ◌==◌}
use Rattle.rules.specs.Tables.{Table}
use Rattle.machine.specs.Numbers.{all_parts, first_wrong, size_of}
use Rattle.machine.specs.declared.answers.Part.{Part}
use Rattle.machine.specs.declared.answers.Part.TheVariants.{Memory, Log}
use Rattle.machine.specs.declared.calls.Call.{Call}
use Rattle.machine.specs.declared.calls.Call.TheVariants.{Enter, Look, Start, Go, NextCommand}
use Rattle.machine.specs.declared.calls.State.{State}
use Rattle.machine.specs.declared.calls.State.TheVariants.{Idle, Running}
use Rattle.machine.specs.declared.parts.Labelled.{Labelled}
use Rattle.machine.specs.declared.parts.Sizes.{Sizes}

-- What a call is to an observer: numbers that are entered and rounds that are started.
pub data Input (L : Type 0) : Type 0 where
  -- the cell, and what is put into it
  enters : ℕ → Labelled L → Input L
  starts : Input L

-- What there is to know of a call.
pub record CallFacts (L : Type 0) : Type 0 where
  -- the states that take it
  pub taken : State → Bool
  -- the parts that it is handed
  pub handed : List Part
  -- whether it asks the policy
  pub asks : Bool
  -- the enters and starts that it stands for to an observer, in order
  pub inputs : List (Input L)

abbrev pub is_idle : State → Bool
is_idle Idle = true
is_idle state = false

abbrev pub is_running : State → Bool
is_running Running = true
is_running state = false

abbrev pub is_any : State → Bool
is_any state = true

module _ {L : Type 0} where
  abbrev pub call_facts : (State → Bool) → List Part → Bool → List (Input L) → CallFacts L
  call_facts taken handed asks inputs = record { taken = taken; handed = handed; asks = asks; inputs = inputs }

  -- The table: the states that take the call, the parts that it is handed, whether it asks the policy, and what
  -- it stands for.
  abbrev pub facts : Call L → CallFacts L
  facts (Enter cell number) = call_facts is_idle (Memory ∷ []) false (enters cell number ∷ [])
  facts (Look cell clearance) = call_facts is_idle (Memory ∷ []) false []
  facts Start = call_facts is_idle [] false (starts ∷ [])
  facts (Go fuel) = call_facts is_running all_parts true []
  facts (NextCommand from clearance) = call_facts is_any (Log ∷ []) false []

  -- whether a station in a state takes a call
  abbrev pub is_taken : Call L → State → Bool
  is_taken call = (facts call).taken

  abbrev pub is_some_input : List (Input L) → Bool
  is_some_input [] = false
  is_some_input inputs = true

  -- whether a call stands for any enter or start
  abbrev pub is_input : Call L → Bool
  is_input call = is_some_input (facts call).inputs

-- A call as it is made, with what it is lent: how long the parts are that are handed in, and the policy. A
-- station is handed its own parts, as the call before left them, or parts of a wrong length, which are told
-- apart here. The policy stands here by a table that it is true to: any policy true to that table answers as it
-- does.
pub record LentCall (L : Type 0) : Type 0 where
  pub call : Call L
  pub lens : Sizes
  pub table : Table L

module _ {L : Type 0} where
  abbrev pub lent : Call L → Sizes → Table L → LentCall L
  lent call lens table = record { call = call; lens = lens; table = table }

  -- Of a station made with parts of the first lengths and handed parts of the second at a call: the first part
  -- that the call is handed and that is not as long as when the station was made.
  abbrev pub misfit : Sizes → Call L → Sizes → Option Part
  misfit sizes call lens = first_wrong (λ part. size_of lens part == size_of sizes part) (facts call).handed
