-- The list after the copy and the write is the one with the element put in.
use Rattle.std.proofs.Common.{◌≡◌, ◌+◌, ◌-◌, length, arith}
use Rattle.steps.proofs.Inserts.{under_at}
use Rattle.steps.proofs.walks.insert_under.Goals as goal

pub returns : goal.returns
returns g c =
    let n = length c.args.part.now in
    let i = n - 1 - c.args.count in
    let copied = c.copy_within.ensures.after in
    let under = under_at c.args.part.now i c.args.count c.args.element (omega arith) in
    let moved : n - 1 - i ≡ c.args.count = omega arith in
    let below : i + c.args.count ≡ n - 1 = omega arith in
    let whole : i + c.args.count + 1 ≡ n = omega arith in
    cc
