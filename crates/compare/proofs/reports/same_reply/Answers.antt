-- Replies to looks are the same if both show one number, or both refuse for one reason.
use Rattle.std.proofs.Common.{rules, ◌≡◌, ◌↔◌, IsTrue}
use Rattle.compare.specs.Tests.{same_shown, same_refused}
use Rattle.compare.proofs.Looking.{shown_same, refused_same}
use Rattle.compare.proofs.reports.same_reply.Goals as goal

pub returns-in-Shown-Shown : goal.returns-in-Shown-Shown
returns-in-Shown-Shown g c =
    rw (c.in-Shown-Shown.is-0, c.in-Shown-Shown.is-1)
    (λ is. rw (c.are_same.ensures.0 is) same_shown, λ same. c.are_same.ensures.1 (shown_same _ _ same))

pub returns-in-Refused-Refused : goal.returns-in-Refused-Refused
returns-in-Refused-Refused g c =
    let equal : IsTrue c.eq.result ↔ (c.in-Refused-Refused.why ≡ c.in-Refused-Refused.other) = search rules in
    rw (c.in-Refused-Refused.is-0, c.in-Refused-Refused.is-1)
    (λ is. rw (equal.0 is) same_refused, λ same. equal.1 (refused_same _ _ same))
