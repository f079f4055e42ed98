-- The plans that are compared, and what comparing them comes to.
use Rattle.std.proofs.Common.{inl, inr}
use Rattle.boundary.proofs.reports.report.Goals as goal

pub returns-in-Ok : goal.returns-in-Ok
returns-in-Ok g c = (
  c.in-Some.level,
  c.in-Some.ensures,
  (
    c.in_ok-one.one,
    c.in_ok-one.ensures,
    (
      c.in_ok-two.two,
      c.in_ok-two.ensures,
      inl (c.in-Ok.compared, c.in-Ok.ensures.compares, c.of.ensures),
    ),
  ),
)

pub returns-in-Err : goal.returns-in-Err
returns-in-Err g c = (
  c.in-Some.level,
  c.in-Some.ensures,
  (
    c.in_ok-one.one,
    c.in_ok-one.ensures,
    (
      c.in_ok-two.two,
      c.in_ok-two.ensures,
      inr (c.in-Err.unmade, c.in-Err.ensures.unmade, c.unmade.ensures),
    ),
  ),
)
