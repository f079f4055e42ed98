-- Operations are compared without the number that a push holds, and pushes by their numbers.
use Rattle.std.proofs.Common.{rules, ◌≡◌, ◌↔◌, IsTrue}
use Rattle.machine.specs.Observer.{alike_push}
use Rattle.compare.specs.Tests.{without_number}
use Rattle.compare.proofs.Likeness.{alike_number, same_without, first_other, second_other}
use Rattle.compare.proofs.comparers.OperationsComparerOperation.alike.Goals as goal
use Rattle.compare.proofs.comparers.OperationsComparerOperation.alike.Goals.{in_default-via-in-Push+in_default}
use Rattle.compare.proofs.comparers.OperationsComparerOperation.alike.Goals.{in_default-via-in_default}

pub returns-in-Push-Push : goal.returns-in-Push-Push
returns-in-Push-Push g c =
    rw (c.in-Push-Push.is-0, c.in-Push-Push.is-1) (
      λ is. alike_push (c.are_alike.ensures.0 is),
      λ alike. c.are_alike.ensures.1 (alike_number g.L.Label.kind c.args.self.now.level _ _ alike),
    )

pub returns-in_default : goal.returns-in_default
returns-in_default g c =
    let same : IsTrue c.eq.result ↔ (without_number c.args.first.now ≡ without_number c.args.second.now) =
    search rules in (
      λ is. elim c.in_default.branch [
        | in_default-via-in-Push+in_default w ↦ second_other g.L.Label.kind c.args.self.now.level _ _
            w.in_default.not-Push-1 (same.0 is)
        | in_default-via-in_default w ↦ first_other g.L.Label.kind c.args.self.now.level _ _ w.in_default.not-Push-0
            (same.0 is)
      ],
      λ alike. same.1 (same_without g.L.Label.kind c.args.self.now.level _ _ alike),
    )
