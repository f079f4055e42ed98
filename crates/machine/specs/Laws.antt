-- Laws of calls and of whole runs, whatever the tables.
use Rattle.std.specs.Prelude.{◌≡◌, ℕ, ◌+◌, ◌<◌, ◌≤◌, true, false, List, length, ℤ, Some, None, Option, ◌≢◌}
use Rattle.labels.specs.Kind.{Kind}
use Rattle.rules.specs.Tables.{Table}
use Rattle.machine.specs.Calls.{LentCall, lent}
use Rattle.machine.specs.Lists.{Begins}
use Rattle.machine.specs.Observer.{History, setup_of, end_of}
use Rattle.machine.specs.Stations.{Station, idle, running, shut, granted, shows, found, refused, kept_by}
use Rattle.machine.specs.Stations.{memory_of, commands_of, Running, gone, answer, after, after_all}
use Rattle.machine.specs.Steps.{Setup, Kept, element}
use Rattle.machine.specs.declared.answers.Refusal.{Refusal}
use Rattle.machine.specs.declared.answers.Stop.{Stop}
use Rattle.machine.specs.declared.calls.Call.TheVariants.{Enter, Look, NextCommand}
use Rattle.machine.specs.declared.parts.Labelled.{Labelled}
use Rattle.machine.specs.declared.parts.Sizes.{Sizes}

module _ {L : Type 0} (kind : Kind L) where
  -- Commands are only added, whatever is called.
  abbrev pub CommandsGrow : Type 0
  CommandsGrow = (setup : Setup L) (st : Station L) (calls : List (LentCall L))
      → Begins ◌≡◌ (commands_of st) (commands_of (after_all kind setup st calls))

  -- The memory stays as long as it was made, whatever is called.
  abbrev pub MemoryKeepsLength : Type 0
  MemoryKeepsLength = (setup : Setup L) (st : Station L) (calls : List (LentCall L))
      → length (memory_of (after_all kind setup st calls)) ≡ length (memory_of st)

  -- A shut station stays as it is, with its memory and commands, whatever is called.
  abbrev pub ShutForGood : Type 0
  ShutForGood = (setup : Setup L) (stop : Stop) (place : ℤ) (kept : Kept L) (calls : List (LentCall L))
      → after_all kind setup (shut stop place kept) calls ≡ shut stop place kept

  -- Looks and questions for commands change nothing.
  pub record LookingChangesNothing : Type 0 where
    pub looks : (setup : Setup L) (st : Station L) (lens : Sizes) (table : Table L) (cell : ℕ) (clearance : L)
        → after kind setup st (lent (Look cell clearance) lens table) ≡ st
    pub questions : (setup : Setup L) (st : Station L) (lens : Sizes) (table : Table L) (from : ℕ) (clearance : L)
        → after kind setup st (lent (NextCommand from clearance) lens table) ≡ st

  -- A refused call changes nothing.
  abbrev pub RefusedChangesNothing : Type 0
  RefusedChangesNothing = (setup : Setup L) (st : Station L) (made : LentCall L) (why : Refusal)
      → answer kind setup st made ≡ refused why → after kind setup st made ≡ st

  -- Under one table, a go of fuel f and then a go of fuel g leave what a go of fuel f + g leaves, and take its
  -- steps together.
  pub record GoesAddUp : Type 0 where
    pub stations : (setup : Setup L) (table : Table L) (f g : ℕ) (st : Station L)
        → (gone kind setup table (f + g) st).station
        ≡ (gone kind setup table g (gone kind setup table f st).station).station
    pub steps : (setup : Setup L) (table : Table L) (f g : ℕ) (st : Station L)
        → (gone kind setup table (f + g) st).steps
        ≡ (gone kind setup table f st).steps + (gone kind setup table g (gone kind setup table f st).station).steps

  -- A go takes at most as many steps as it has fuel, and exactly as many if it leaves the station running.
  pub record FuelSpent : Type 0 where
    pub at_most : (setup : Setup L) (table : Table L) (fuel : ℕ) (st : Station L)
        → (gone kind setup table fuel st).steps ≤ fuel
    pub all : (setup : Setup L) (table : Table L) (fuel : ℕ) (st : Station L)
        → Running (gone kind setup table fuel st).station
        → (gone kind setup table fuel st).steps ≡ fuel

  -- Under a policy that forbids everything, a go takes no step and changes neither memory nor commands.
  pub record ForbiddenDoesNothing : Type 0 where
    pub steps : (setup : Setup L) (fuel : ℕ) (st : Station L) → (gone kind setup (λ _. None) fuel st).steps ≡ 0
    pub keeps : (setup : Setup L) (fuel : ℕ) (st : Station L)
        → kept_by (gone kind setup (λ _. None) fuel st).station ≡ kept_by st

  -- What was entered is shown to whoever may know it, and every other cell is shown as before.
  pub record EnteredIsShown : Type 0 where
    pub there : (setup : Setup L) (kept : Kept L) (lens : Sizes) (table : Table L) (cell : ℕ)
        (v : Labelled L) (clearance : L)
        → answer kind setup (idle kept) (lent (Enter cell v) lens table) ≡ granted → kind.below v.label clearance ≡ true
        → answer kind setup (after kind setup (idle kept) (lent (Enter cell v) lens table))
        (lent (Look cell clearance) lens table)
        ≡ shows v
    pub elsewhere : (setup : Setup L) (st : Station L) (lens : Sizes) (table : Table L)
        (cell other : ℕ) (v : Labelled L)
        (clearance : L) → (other ≢ cell)
        → answer kind setup (after kind setup st (lent (Enter cell v) lens table))
        (lent (Look other clearance) lens table)
        ≡ answer kind setup st (lent (Look other clearance) lens table)

  -- the command at a place, if there is one
  abbrev pub command_at : List (Labelled L) → ℕ → Option (Labelled L)
  command_at commands place = element commands place None Some

  -- The place is the first from `from` on whose command is at or below the clearance; or there is none.
  abbrev pub First : List (Labelled L) → ℕ → L → Option ℕ → Type 0
  First commands from clearance None =
      (place : ℕ) (v : Labelled L) → from ≤ place → command_at commands place ≡ Some v
      → kind.below v.label clearance ≡ false
  First commands from clearance (Some n) = record {
    from_on : from ≤ n;
    there : (v : Labelled L) × (command_at commands n ≡ Some v) × (kind.below v.label clearance ≡ true);
    none_before : (place : ℕ) (v : Labelled L) → from ≤ place → place < n → command_at commands place ≡ Some v
        → kind.below v.label clearance ≡ false;
  }

  -- What the question for the next command finds is the first command from the place on at or below the clearance.
  abbrev pub NextIsFirst : Type 0
  NextIsFirst =
      (setup : Setup L) (st : Station L) (lens : Sizes) (table : Table L) (from : ℕ) (clearance : L)
      (next : Option ℕ)
      → answer kind setup st (lent (NextCommand from clearance) lens table) ≡ found next
      → First (commands_of st) from clearance next

  -- the stack and the log hold no more than their sizes
  abbrev pub Within : Sizes → Station L → Type 0
  Within sizes (idle kept) = length kept.commands ≤ sizes.log
  Within sizes (running s) = (length s.stack ≤ sizes.stack) × (length s.kept.commands ≤ sizes.log)
  Within sizes (shut stop place kept) = length kept.commands ≤ sizes.log

  -- No station has a depth above its stack's length or more commands than its log holds.
  abbrev pub WithinSizes : Type 0
  WithinSizes = (h : History L) → Within (setup_of h).sizes (end_of kind h)
