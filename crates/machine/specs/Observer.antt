-- What an observer at a level has, and the promise to those whose numbers are hidden from him.
use Rattle.std.specs.Prelude.{◌≡◌, ℕ, false, cond, ◌⊎◌, List, [], ◌∷◌, ◌++◌, length, true, IsTrue}
use Rattle.labels.specs.Kind.{Kind}
use Rattle.rules.specs.Tables.{Table, Same, published}
use Rattle.machine.specs.Calls.{Input, enters, starts, LentCall, lent, facts, misfit}
use Rattle.machine.specs.Lists.{Each, OneBegins}
use Rattle.machine.specs.Stations.{Station, fitting, made, commands_of, Idle, answer, after_all, Allowed}
use Rattle.machine.specs.Steps.{Setup, setup}
use Rattle.machine.specs.declared.calls.Call.TheVariants.{Look}
use Rattle.machine.specs.declared.parts.Labelled.{Labelled}
use Rattle.machine.specs.declared.parts.Operation.{Operation}
use Rattle.machine.specs.declared.parts.Operation.TheVariants.{Push}
use Rattle.machine.specs.declared.parts.Sizes.{Sizes}

-- A station as it was made, and the calls made on it since.
pub record History (L : Type 0) : Type 0 where
  pub program : List (Operation L)
  pub memory : List (Labelled L)
  pub stack_size : ℕ
  pub log_size : ℕ
  pub calls : List (LentCall L)

module _ {L : Type 0} where
  abbrev pub setup_of : History L → Setup L
  setup_of h = setup h.program h.memory h.stack_size h.log_size

  -- what is left of a call where goes, looks, questions for commands and calls refused with 2 are struck out
  abbrev pub left_of : Sizes → LentCall L → List (Input L)
  left_of sizes made = fitting (misfit sizes made.call made.lens) (λ _. []) (facts made.call).inputs

  abbrev pub struck : Sizes → List (LentCall L) → List (Input L)
  struck sizes [] = []
  struck sizes (made ∷ calls) = left_of sizes made ++ struck sizes calls

  -- the enters and starts that count when two histories are compared
  abbrev pub inputs : History L → List (Input L)
  inputs h = struck (setup_of h).sizes h.calls

module _ {L : Type 0} (kind : Kind L) where
  open kind use {below}

  -- the station at the end of its history
  abbrev pub end_of : History L → Station L
  end_of h = after_all kind (setup_of h) (made h.memory) h.calls

  -- A call that asks its policy asks one that is true to these rows. Such a policy answers as they do, whatever
  -- it holds and however it comes to its answers, so a table with these answers stands for it.
  abbrev pub Under : Table L → LentCall L → Type 0
  Under rows made = IsTrue (facts made.call).asks → Same rows made.table

  abbrev pub AllUnder : Table L → List (LentCall L) → Type 0
  AllUnder rows [] = Unit {0}
  AllUnder rows (made ∷ calls) = Under rows made × AllUnder rows calls

  -- Each call was made in a state that takes it, and each go under a policy true to these rows, the same or another.
  abbrev pub Proper : Table L → History L → Type 0
  Proper rows h = Allowed kind (setup_of h) (made h.memory) h.calls × AllUnder rows h.calls

  module _ (o : L) where
    -- Two labelled numbers are alike to an observer at o: they are the same, or neither label is at or below o.
    abbrev pub Alike : Labelled L → Labelled L → Type 0
    Alike v w = (v ≡ w) ⊎ ((below v.label o ≡ false) × (below w.label o ≡ false))

    -- Operations are alike if they are the same, except that a push needs only alike numbers.
    pub data AlikeOperation : Operation L → Operation L → Type 0 where
      same_operation : {op : Operation L} → AlikeOperation op op
      alike_push : {v w : Labelled L} → Alike v w → AlikeOperation (Push v) (Push w)

    -- Enters and starts are alike if they are the same, except that entered numbers need only be alike.
    pub data AlikeInput : Input L → Input L → Type 0 where
      same_start : AlikeInput starts starts
      alike_enter : {cell : ℕ} {v w : Labelled L} → Alike v w → AlikeInput (enters cell v) (enters cell w)

    -- Stations are alike as made if their programs and memories are; stacks, logs and policies may differ.
    abbrev pub AlikeStations : History L → History L → Type 0
    AlikeStations one two = Each AlikeOperation one.program two.program × Each Alike one.memory two.memory

    -- Lists of calls are alike if, with what is struck out, one is a beginning of the other.
    abbrev pub AlikeCalls : History L → History L → Type 0
    AlikeCalls one two = OneBegins AlikeInput (inputs one) (inputs two)

    -- the numbers at or below o
    abbrev pub visible : List (Labelled L) → List (Labelled L)
    visible [] = []
    visible (v ∷ vs) = cond (below v.label o) (v ∷ visible vs) (visible vs)

    -- Of the commands at or below o, one list is a beginning of the other.
    abbrev pub SameCommands : History L → History L → Type 0
    SameCommands one two = OneBegins ◌≡◌ (visible (commands_of (end_of one))) (visible (commands_of (end_of two)))

    -- Where equally many enters and starts are left and both stations are idle, every look into a station's own
    -- parts with a clearance at or below o has the same answer on both. (A look asks no policy, so any table
    -- stands for one.)
    abbrev pub SameLooks : History L → History L → Type 0
    SameLooks one two =
        length (inputs one) ≡ length (inputs two) → Idle (end_of one) → Idle (end_of two)
        → (cell : ℕ) (clearance : L) (table : Table L) → below clearance o ≡ true
        → answer kind (setup_of one) (end_of one) (lent (Look cell clearance) (setup_of one).sizes table)
        ≡ answer kind (setup_of two) (end_of two) (lent (Look cell clearance) (setup_of two).sizes table)

module _ {L : Type 0} (kind : Kind L) where
  -- Noninterference where policies are true to these rows: two stations that are alike to an observer when
  -- made, given lists of calls that are alike to him, show him the same commands as far as both have come, and,
  -- after equally many enters and starts, the same cells when both rest.
  abbrev pub NoninterferenceUnder : Table L → Type 0
  NoninterferenceUnder rows =
      (o : L) (one two : History L) → Proper kind rows one → Proper kind rows two
      → AlikeStations kind o one two → AlikeCalls kind o one two
      → SameCommands kind o one two × SameLooks kind o one two

  -- Noninterference under the published rows.
  abbrev pub Noninterference : Type 0
  Noninterference = NoninterferenceUnder (published kind)
