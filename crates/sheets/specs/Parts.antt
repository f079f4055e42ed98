-- The parts of a station that a sheet gives.
use Rattle.std.specs.Prelude.{◌≡◌, pos, List, replicate}
use Rattle.machine.specs.declared.parts.Labelled.{Labelled}
use Rattle.machine.specs.declared.parts.Entry.TheVariants.{Number}
use Rattle.machine.specs.declared.calls.Call.{Call}
use Rattle.sites.specs.declared.lending.Parts.{Parts}
use Rattle.sheets.specs.declared.sheet.Sheet.{Sheet}

-- 0 with that label
abbrev pub zero_at : {L : Type 0} → L → Labelled L
zero_at label = record { value = pos 0; label = label }

-- The program, the memory and the calls are the sheet's. Stack and log are as long as the sheet says
-- and hold 0 with that label.
pub record GivesParts {L : Type 0} (bottom : L) (sheet : Sheet L) (parts : Parts L)
    (calls : List (Call L)) : Type 0 where
  pub program : parts.program.items ≡ sheet.program.items
  pub memory : parts.memory.items ≡ sheet.memory.items
  pub stack : parts.stack.items ≡ replicate sheet.stack (Number (zero_at bottom))
  pub log : parts.log.items ≡ replicate sheet.log (zero_at bottom)
  pub made : calls ≡ sheet.calls.items
