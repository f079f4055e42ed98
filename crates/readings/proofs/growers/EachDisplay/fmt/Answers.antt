-- The loop over the growers: one more of them, named or not.
use Rattle.std.proofs.Common.{◌≡◌, ℕ, ◌+◌, ◌/◌, ◌%◌, ◌^◌, ◌==◌, ◌++◌, false, codes}
use Rattle.std.proofs.Common.{rules, refl, add-one, append-nil, ⊎_elim, arith}
use Rattle.std.specs.Fmt.{decimal}
use Rattle.std.proofs.Output.{has_written_append, has_written_of_eq, has_written_to_eq}
use Rattle.std.proofs.lemmas.Bool.{cases_Bool, eqb-true, eq-eqb}
use Rattle.labels.specs.Growers.{In}
use Rattle.labels.specs.declared.growers.mask.Growers.{Growers}
use Rattle.readings.specs.Growers.{named_below}
use Rattle.readings.proofs.growers.EachDisplay.fmt.Goals as goal
use Rattle.readings.proofs.growers.EachDisplay.fmt.Goals.{then-names+in_ok-write, else-names}

-- one grower more: who is named,
one_named : (a : Growers) (n : ℕ) → In n a
    → named_below a n ++ (codes " " ++ decimal n) ≡ named_below a (n + 1)
unfolding named_below
one_named a n here = rw (add-one, eq-eqb (a.mask / 2 ^ n % 2) 1 here) refl

-- or who is not
one_not_named : (a : Growers) (n : ℕ) → (In n a → ⊥) → named_below a n ≡ named_below a (n + 1)
unfolding named_below
one_not_named a n away =
    let not_here : (a.mask / 2 ^ n % 2 == 1) ≡ false =
    ⊎_elim
    (λ t. absurd (away (eqb-true (a.mask / 2 ^ n % 2) 1 t)))
    (λ f. f)
    (cases_Bool (a.mask / 2 ^ n % 2 == 1)) in
    rw (add-one, not_here, append-nil) refl

pub loop-grower-init : goal.loop-grower-init
unfolding named_below
loop-grower-init g c = search rules

pub loop-grower-preserved : goal.loop-grower-preserved
loop-grower-preserved g c plain =
    let label = c.args.self.now.0 in
    let grower = c.loop-grower.grower-counter in
    elim c.if-names.branch [
      | then-names+in_ok-write w ↦
          has_written_of_eq _ _ _ _ _
          (one_named label grower (w.if-names.ensures.member.0 refl).1)
          (has_written_append _ _ _ _ _ _ (c.loop-grower.invariant plain) (search rules))
      | else-names w ↦
          has_written_to_eq _ _ _ _ _ w.f-is
          (has_written_of_eq _ _ _ _ _
          (one_not_named label grower (λ here. cc (w.if-names.ensures.member.1 (omega arith, here))))
          (c.loop-grower.invariant plain))
    ]
