-- Both policies of a name are true to the published rows.
use Rattle.boundary.proofs.choices.PolicyCode.compare.Goals as goal

pub returns-in-Rows : goal.returns-in-Rows
returns-in-Rows g c =
    rw c.in-Rows.is (
      c.new-first-in-Rows.result,
      c.new-first-in-Rows.ensures.faithful,
      (c.new-second-in-Rows.result, c.new-second-in-Rows.ensures.faithful, c.report-in-Rows.ensures),
    )

pub returns-in-Cached : goal.returns-in-Cached
returns-in-Cached g c =
    rw c.in-Cached.is (
      c.cached-first.result,
      c.cached-first.ensures,
      (c.cached-second.result, c.cached-second.ensures, c.report-in-Cached.ensures),
    )

pub returns-in-CachedTwice : goal.returns-in-CachedTwice
returns-in-CachedTwice g c =
    rw c.in-CachedTwice.is (
      c.cached_twice-first.result,
      c.cached_twice-first.ensures,
      (c.cached_twice-second.result, c.cached_twice-second.ensures, c.report-in-CachedTwice.ensures),
    )
