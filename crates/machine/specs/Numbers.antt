-- The numbers of refusals and stops, and the limits of the parts.
use Rattle.std.specs.Prelude.{ℕ, Bool, false, cond, List, [], ◌∷◌, Some, None, Option, nat_le}
use Rattle.machine.specs.declared.answers.Part.{Part}
use Rattle.machine.specs.declared.answers.Part.TheVariants.{Program, Memory, Stack, Log}
use Rattle.machine.specs.declared.answers.Refusal.{Refusal}
use Rattle.machine.specs.declared.answers.Refusal.TheVariants.{Limits, Length, Cell, Clearance}
use Rattle.machine.specs.declared.answers.Stop.{Stop}
use Rattle.machine.specs.declared.answers.Stop.TheVariants.{OutsideProgram, TooFewNumbers}
use Rattle.machine.specs.declared.answers.Stop.TheVariants.{StackFull, OutsideMemory, Forbidden}
use Rattle.machine.specs.declared.answers.Stop.TheVariants.{NoFrame, LogFull, HaltAboveBottom}
use Rattle.machine.specs.declared.parts.Sizes.{Sizes}

-- A refusal's number, and the part that the call is refused for, if it is for one.
abbrev pub refusal_row : Refusal → ℕ × Option Part
refusal_row (Limits part) = (1, Some part)
refusal_row (Length part) = (2, Some part)
refusal_row Cell = (3, None)
refusal_row Clearance = (4, None)

abbrev pub refusal_number : Refusal → ℕ
refusal_number why = (refusal_row why).0

abbrev pub refusal_part : Refusal → Option Part
refusal_part why = (refusal_row why).1

abbrev pub stop_number : Stop → ℕ
stop_number OutsideProgram = 21
stop_number TooFewNumbers = 22
stop_number StackFull = 23
stop_number OutsideMemory = 24
stop_number Forbidden = 25
stop_number NoFrame = 26
stop_number LogFull = 27
stop_number HaltAboveBottom = 28

-- the four parts, in the order in which they are tested
abbrev pub all_parts : List Part
all_parts = Program ∷ Memory ∷ Stack ∷ Log ∷ []

-- how long a part may be at most
abbrev pub most : Part → ℕ
most Program = 4096
most Memory = 1024
most Stack = 1024
most Log = 4096

abbrev pub size_of : Sizes → Part → ℕ
size_of sizes Program = sizes.program
size_of sizes Memory = sizes.memory
size_of sizes Stack = sizes.stack
size_of sizes Log = sizes.log

-- the first of these parts that is not right
abbrev pub first_wrong : (Part → Bool) → List Part → Option Part
first_wrong right [] = None
first_wrong right (part ∷ rest) = cond (right part) (first_wrong right rest) (Some part)

-- How long a part may be: 1 to so much.
abbrev pub within : ℕ → ℕ → Bool
within most n = cond (nat_le 1 n) (nat_le n most) false

-- the first part outside its limits
abbrev pub outside_limits : Sizes → Option Part
outside_limits sizes = first_wrong (λ part. within (most part) (size_of sizes part)) all_parts
