-- The cell at an address, by whether there is one.
use Rattle.std.proofs.Common.{◌≡◌, arith, w32, w64, SFits, to_z, of_z, rules, sym}
use Rattle.std.proofs.lemmas.Int.{ints}
use Rattle.steps.proofs.Places.{finds_cell, finds_no_cell}
use Rattle.steps.proofs.walks.find_cell.Goals as goal

pub returns-in-Some : goal.returns-in-Some
returns-in-Some g c =
    let fits : SFits w32 c.args.address.value = search rules in
    let same : to_z w64 (of_z w64 c.from.result) ≡ c.args.address.value = omega (arith, ints) in
    let found = c.in-Some.ensures in
    finds_cell c.args.memory.now _ c.args.address.value same c.in-Some.field-0.index c.read.result
    (rw (sym c.read.ensures) at found)

pub returns-in-None : goal.returns-in-None
returns-in-None g c =
    let fits : SFits w32 c.args.address.value = search rules in
    let same : to_z w64 (of_z w64 c.from.result) ≡ c.args.address.value = omega (arith, ints) in
    finds_no_cell c.args.memory.now _ c.args.address.value same c.in-None.ensures
