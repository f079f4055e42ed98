-- How the parts of a station are coded by structs of numbers.
use Rattle.std.specs.Prelude.{◌≡◌, ℕ, ◌≤◌, pos, cond, List, [], ◌∷◌, FitsSigned}
use Rattle.std.specs.Int.{w32}
use Rattle.machine.specs.declared.parts.Entry.{Entry}
use Rattle.machine.specs.declared.parts.Entry.TheVariants.{Number, Frame}
use Rattle.machine.specs.declared.parts.Labelled.{Labelled}
use Rattle.machine.specs.declared.parts.Operation.{Operation}
use Rattle.machine.specs.declared.parts.Operation.TheVariants.{Push, Pop, Noop, Add, Sub, Less}
use Rattle.machine.specs.declared.parts.Operation.TheVariants.{Load, Store, Jump, Bnz, Call, Return}
use Rattle.machine.specs.declared.parts.Operation.TheVariants.{Output, Halt}
use Rattle.boundary.specs.declared.parts.EntryCode.{EntryCode}
use Rattle.boundary.specs.declared.parts.NumberCode.{NumberCode}
use Rattle.boundary.specs.declared.parts.OperationCode.{OperationCode}

module _ {L : Type 0} (code : L → ℕ) where
  -- a number and its label's
  abbrev pub number_code : Labelled L → NumberCode
  number_code v = record { value = v.value; label = code v.label }

  -- each number has one code
  abbrev pub CodesNumber : NumberCode → Labelled L → Type 0
  CodesNumber c v = c ≡ number_code v

  -- An operation's number, and what goes with it. The other fields say nothing.
  abbrev pub CodesOperation : OperationCode → Operation L → Type 0
  CodesOperation c (Push v) = (c.code ≡ 0) × (c.value ≡ v.value) × (c.label ≡ code v.label)
  CodesOperation c Pop = c.code ≡ 1
  CodesOperation c Noop = c.code ≡ 2
  CodesOperation c Add = c.code ≡ 3
  CodesOperation c Sub = c.code ≡ 4
  CodesOperation c Less = c.code ≡ 5
  CodesOperation c Load = c.code ≡ 6
  CodesOperation c Store = c.code ≡ 7
  CodesOperation c Jump = c.code ≡ 8
  CodesOperation c (Bnz by) = (c.code ≡ 9) × (c.value ≡ by)
  CodesOperation c (Call count due) =
      (c.code ≡ 10) × (c.value ≡ pos count) × (count ≤ 255) × (c.due ≡ cond due 1 0)
  CodesOperation c Return = c.code ≡ 11
  CodesOperation c Output = c.code ≡ 12
  CodesOperation c Halt = c.code ≡ 13

  -- a number, or a frame where a result is due or not
  abbrev pub entry_code : Entry L → EntryCode
  entry_code (Number v) = record { number = v.value; label = code v.label; form = 0 }
  entry_code (Frame f) = record { number = f.place; label = code f.label; form = cond f.due 2 1 }

  -- A number that is coded is one of 32 bits.
  abbrev pub CodesEntry : EntryCode → Entry L → Type 0
  CodesEntry c (Number v) = (c ≡ entry_code (Number v)) × FitsSigned w32 v.value
  CodesEntry c (Frame f) = c ≡ entry_code (Frame f)

-- equally long, and one coding the other element by element
pub data CodesEach {C A : Type 0} (Codes : C → A → Type 0) : List C → List A → Type 0 where
  none : CodesEach Codes [] []
  more : {c : C} {a : A} {cs : List C} {xs : List A} → Codes c a → CodesEach Codes cs xs
      → CodesEach Codes (c ∷ cs) (a ∷ xs)
