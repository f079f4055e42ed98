-- Refusals of a part by its length and of a cell by its place.
use Rattle.std.specs.Prelude.{◌≡◌, ℕ, ◌<◌, ◌≤◌, Option, Ok, Err, Result}
use Rattle.machine.specs.Stations.{fitting}
use Rattle.machine.specs.declared.answers.Part.{Part}
use Rattle.machine.specs.declared.answers.Refusal.{Refusal}
use Rattle.machine.specs.declared.answers.Refusal.TheVariants.{Cell}

-- Refused by the first part that is wrong, if one is.
abbrev pub checked : (Part → Refusal) → Option Part → Result (Unit {0}) Refusal
checked why wrong = fitting wrong (λ part. Err (why part)) (Ok tt)

-- Refused with 3 where a memory of so many cells has no such cell.
abbrev pub CellThere : ℕ → ℕ → Result (Unit {0}) Refusal → Type 0
CellThere cells cell (Ok _) = cell < cells
CellThere cells cell (Err why) = (cells ≤ cell) × (why ≡ Cell)
