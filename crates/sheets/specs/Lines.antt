-- What the words of a line of a sheet say.
use Rattle.std.specs.Prelude.{◌≡◌, ℕ, Bool, List, [], ◌∷◌, codes, Result, Ok, Err}
use Rattle.machine.specs.declared.parts.Operation.{Operation}
use Rattle.machine.specs.declared.parts.Operation.TheVariants.{Push, Pop, Noop, Add, Sub, Less}
use Rattle.machine.specs.declared.parts.Operation.TheVariants.{Load, Store, Jump, Bnz, Call, Return}
use Rattle.machine.specs.declared.parts.Operation.TheVariants.{Output, Halt}
use Rattle.machine.specs.declared.calls.Call.{Call as CallOf}
use Rattle.machine.specs.declared.calls.Call.TheVariants.{Enter, Look, Start, Go, NextCommand}
use Rattle.sheets.specs.declared.settings.Setting.{Setting}
use Rattle.sheets.specs.declared.settings.Setting.TheVariants.{Labels, Memory, Stack, Log, Cell}
use Rattle.sheets.specs.Kinds.{kind_words}
use Rattle.sheets.specs.Numbers.{CountRead, YesRead, ValueRead, NumberRead}

-- a word alone
abbrev pub Alone : List (List ℕ) → List ℕ → Type 0
Alone line name = line ≡ name ∷ []

-- a word, and a number up to `most` behind it
abbrev pub SaysCount : ℕ → List (List ℕ) → List ℕ → ℕ → Type 0
SaysCount most line name n = (word : List ℕ) × (line ≡ name ∷ word ∷ []) × CountRead most word n

-- the words of a line before the program: a name, and what is set behind it
abbrev pub SaysSetting : List (List ℕ) → Setting → Type 0
SaysSetting line (Labels kind) = line ≡ codes "labels" ∷ kind_words kind
SaysSetting line (Memory n) = SaysCount 65535 line (codes "memory") n
SaysSetting line (Stack n) = SaysCount 65535 line (codes "stack") n
SaysSetting line (Log n) = SaysCount 65535 line (codes "log") n
SaysSetting line (Cell cell number) =
    (word : List ℕ) × (line ≡ codes "cell" ∷ word ∷ number.now ∷ [])
    × CountRead 4294967295 word cell

-- both words of a call's operands are taken, if the answer is not an error
abbrev pub SaysOperands : {E : Type 0} → List (List ℕ) → Result (ℕ × Bool) E
    → List (List ℕ) → Type 0
SaysOperands before (Ok x) after =
    (k r : List ℕ) × (before ≡ k ∷ r ∷ after) × CountRead 255 k x.0 × YesRead r x.1
SaysOperands before (Err e) after = Unit {0}

module _ {L : Type 0} (text : L → List ℕ) where
  -- the words of an operation: its name, and what it works with behind it
  abbrev pub SaysOperation : List (List ℕ) → Operation L → Type 0
  SaysOperation line (Push v) =
      (word : List ℕ) × (line ≡ codes "push" ∷ word ∷ []) × NumberRead text word v
  SaysOperation line Pop = Alone line (codes "pop")
  SaysOperation line Noop = Alone line (codes "noop")
  SaysOperation line Add = Alone line (codes "add")
  SaysOperation line Sub = Alone line (codes "sub")
  SaysOperation line Less = Alone line (codes "less")
  SaysOperation line Load = Alone line (codes "load")
  SaysOperation line Store = Alone line (codes "store")
  SaysOperation line Jump = Alone line (codes "jump")
  SaysOperation line (Bnz k) = (word : List ℕ) × (line ≡ codes "bnz" ∷ word ∷ []) × ValueRead word k
  SaysOperation line (Call count due) =
      (k r : List ℕ) × (line ≡ codes "call" ∷ k ∷ r ∷ []) × CountRead 255 k count × YesRead r due
  SaysOperation line Return = Alone line (codes "return")
  SaysOperation line Output = Alone line (codes "output")
  SaysOperation line Halt = Alone line (codes "halt")

  -- the words of a call: its name, and what it is made with behind it
  abbrev pub SaysCall : List (List ℕ) → CallOf L → Type 0
  SaysCall line (Enter cell number) =
      (c n : List ℕ) × (line ≡ codes "enter" ∷ c ∷ n ∷ []) × CountRead 4294967295 c cell
      × NumberRead text n number
  SaysCall line (Look cell clearance) =
      (c : List ℕ) × (line ≡ codes "look" ∷ c ∷ text clearance ∷ []) × CountRead 4294967295 c cell
  SaysCall line Start = Alone line (codes "start")
  SaysCall line (Go fuel) = SaysCount 4294967295 line (codes "go") fuel
  SaysCall line (NextCommand from clearance) =
      (p : List ℕ) × (line ≡ codes "command" ∷ p ∷ text clearance ∷ [])
      × CountRead 4294967295 p from
