-- An element by its place: a negative place is beyond every part.
use Rattle.std.proofs.Common.{◌≡◌, ◌≤◌, ◌<◌, length, pos, Some, None, ap, ◌∙◌, w64, SFits, of_z, rules, sym, arith}
use Rattle.std.proofs.lemmas.Int.{to_z-of_z}
use Rattle.machine.specs.Steps.{at_place}
use Rattle.steps.proofs.Places.{element_read, place_past, index_is}
use Rattle.steps.proofs.walks.find.Goals as goal

pub returns-in_err-element : goal.returns-in_err-element
returns-in_err-element g c =
    let fits : SFits w64 c.args.place = search rules in
    let cast : c.cast_unsigned-index.result ≡ of_z w64 c.args.place =
    c.cast_unsigned-index.ensures ∙ ap (of_z w64) (to_z-of_z w64 c.args.place fits) in
    let past : length c.args.part.now ≤ of_z w64 c.args.place =
    omega (arith, cast, c.in_err-element.ensures.lookup.3) in
    rw c.from_residual.ensures (place_past c.args.part.now c.args.place past)

pub returns : goal.returns
returns g c =
    let fits : SFits w64 c.args.place = search rules in
    let cast : c.cast_unsigned-index.result ≡ of_z w64 c.args.place =
    c.cast_unsigned-index.ensures ∙ ap (of_z w64) (to_z-of_z w64 c.args.place fits) in
    let read = c.in_ok-element.ensures.lookup in
    let within : of_z w64 c.args.place < length c.args.part.now = omega (arith, cast, read.3.0) in
    let place : c.args.place ≡ pos c.cast_unsigned-index.result =
    index_is c.args.place (length c.args.part.now) fits c.requires within
    ∙ ap pos (sym cast) in (
      place,
      read.3.0,
      ap (λ place. at_place c.args.part.now place None Some) place
          ∙ element_read c.args.part.now _ c.in_ok-element.element.now read.3.0 read.1,
    )
