-- What comparing two plans in numbers comes to.
use Rattle.std.specs.Prelude.{◌≡◌, ℕ, ◌<◌, ◌^◌, ℤ, pos, negsuc, None, Some, Option}
use Rattle.machine.specs.Numbers.{refusal_number}
use Rattle.compare.specs.declared.reports.Looks.{Looks}
use Rattle.compare.specs.declared.reports.Looks.TheVariants.{NotDue, Same, DifferAt}
use Rattle.compare.specs.declared.reports.Report.{Report}
use Rattle.compare.specs.declared.reports.Unmade.{Unmade}
use Rattle.compare.specs.declared.reports.Unmade.TheVariants.{First, Second}
use Rattle.boundary.specs.Calls.{refused_part}
use Rattle.boundary.specs.declared.reports.ReportCode.{ReportCode}

-- a place, or -1 for none
abbrev pub CodesPlace : ℤ → Option ℕ → Type 0
CodesPlace z None = z ≡ negsuc 0
CodesPlace z (Some place) = place < 2 ^ 63 → z ≡ pos place

-- whether looks were due, and where they differ
abbrev pub CodesLooks : ReportCode → Looks → Type 0
CodesLooks c NotDue = (c.looks ≡ 0) × (c.cell ≡ negsuc 0)
CodesLooks c Same = (c.looks ≡ 1) × (c.cell ≡ negsuc 0)
CodesLooks c (DifferAt cell) = (c.looks ≡ 2) × CodesPlace c.cell (Some cell)

-- where what the observer is given first differs, field by field
pub record CodesReport (c : ReportCode) (report : Report) : Type 0 where
  pub programs : CodesPlace c.programs report.programs
  pub memories : CodesPlace c.memories report.memories
  pub calls : CodesPlace c.calls report.calls
  pub commands : CodesPlace c.commands report.commands
  pub looks : CodesLooks c report.looks
  pub compared : c.code ≡ 0

-- the station that was not made, and why
abbrev pub CodesUnmade : ReportCode → Unmade → Type 0
CodesUnmade c (First why) =
    (c.code ≡ 1) × (c.refusal ≡ refusal_number why) × (c.part ≡ refused_part why)
CodesUnmade c (Second why) =
    (c.code ≡ 2) × (c.refusal ≡ refusal_number why) × (c.part ≡ refused_part why)
