-- Calls whose parts are all as long as when the station was made.
use Rattle.std.proofs.Common.{◌≡◌, Bool, true, false, cond, None, Some, Ok, Option, refl, sym, ap, ◌∙◌, ◌==◌}
use Rattle.std.proofs.lemmas.Bool.{eqb-true}
use Rattle.labels.specs.Kind.{Kind}
use Rattle.machine.specs.Calls.{LentCall, misfit}
use Rattle.machine.specs.Numbers.{all_parts, first_wrong, size_of}
use Rattle.machine.specs.Stations.{Station, Answer, refused, fitting, reply, effect}
use Rattle.machine.specs.Steps.{Setup}
use Rattle.machine.specs.declared.answers.Part.{Part}
use Rattle.machine.specs.declared.answers.Refusal.TheVariants.{Length}
use Rattle.machine.specs.declared.parts.Sizes.{Sizes}
use Rattle.station.specs.Calls.{Performs}
use Rattle.station.specs.Lengths.{checked}

-- of a station made with parts of the first lengths, the first part of the second lengths that is not as long
abbrev pub not_as_made : Sizes → Sizes → Option Part
not_as_made made lens = first_wrong (λ part. size_of lens part == size_of made part) all_parts

pub no_misfit : (wrong : Option Part) → Ok tt ≡ checked Length wrong → wrong ≡ None
no_misfit None fits = refl
no_misfit (Some part) fits = cc

sooner : (part : Part) (right : Bool) {rest : Option Part} → cond right rest (Some part) ≡ None
    → (right ≡ true) × (rest ≡ None)
sooner part true none = (refl, none)
sooner part false none = cc

-- Where none is wrong, all are as long as when the station was made.
pub as_made : (made lens : Sizes) → not_as_made made lens ≡ None → made ≡ lens
as_made made lens none =
    let program = sooner _ _ none in
    let memory = sooner _ _ program.1 in
    let stack = sooner _ _ memory.1 in
    let log = sooner _ _ stack.1 in
    ap (λ n. record made { program = n }) (sym (eqb-true _ _ program.0))
    ∙ ap (λ n. record made { program = lens.program; memory = n }) (sym (eqb-true _ _ memory.0))
    ∙ ap (λ n. record lens { stack = n; log = made.log }) (sym (eqb-true _ _ stack.0))
    ∙ ap (λ n. record lens { log = n }) (sym (eqb-true _ _ log.0))

module _ {L : Type 0} (kind : Kind L) (setup : Setup L) (before : Station L) (made : LentCall L) where
  -- Such a call answers and does what is defined for it.
  pub fitted : {given : Answer L} {left : Station L} → misfit setup.sizes made.call made.lens ≡ None
      → given ≡ reply kind setup made.table before made.call → left ≡ effect kind setup made.table before made.call
      → Performs kind setup before made given left
  fitted fits answers leaves = record {
    answers =
        answers
        ∙ sym
        (ap
        (λ wrong.
        fitting wrong (λ part. refused (Length part))
        (reply kind setup made.table before made.call))
        fits);
    leaves =
        leaves
        ∙ sym
        (ap (λ wrong. fitting wrong (λ _. before) (effect kind setup made.table before made.call))
        fits);
  }
