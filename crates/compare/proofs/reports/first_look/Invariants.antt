-- Up to this cell the looks have the same answers.
use Rattle.std.proofs.Common.{◌≡◌, ℕ, ◌<◌}
use Rattle.compare.specs.Reports.{look_at}
use Rattle.compare.proofs.reports.first_look.Given as goal

abbrev pub invariant-loop-cell : goal.invariant-loop-cell
invariant-loop-cell g l = (earlier : ℕ) → earlier < l.cell
    → look_at g.L.Label.kind l.level l.one.sited earlier ≡ look_at g.L.Label.kind l.level l.two.sited earlier
