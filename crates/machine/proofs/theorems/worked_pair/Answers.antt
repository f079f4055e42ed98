-- The worked histories are proper and alike, each number and call looked at in turn.
use Rattle.std.proofs.Common.{ℕ, List, [], refl, inl, inr}
use Rattle.std.specs.Int.{int_wrap}
use Rattle.labels.specs.Level.{levels}
use Rattle.labels.specs.declared.level.Level.{Level}
use Rattle.labels.specs.declared.level.Level.TheVariants.{L0}
use Rattle.rules.specs.Tables.{Same, published}
use Rattle.machine.specs.Lists.{none, more, ends, goes_on}
use Rattle.machine.specs.Observer.{AlikeStations, AlikeCalls, same_operation, alike_push, same_start, alike_enter}
use Rattle.machine.specs.Calls.{LentCall}
use Rattle.machine.specs.WorkedPair.{one, two, third, Pair}
use Rattle.machine.proofs.theorems.worked_pair.Goals as goal

module _ (fuel : ℕ) (later : List (LentCall Level)) where
  stations : AlikeStations levels L0 (one fuel) (two later)
  stations = (
    more same_operation (more same_operation (more (alike_push (inr (refl, refl)))
        (more same_operation
        (more same_operation
        (more same_operation
        (more same_operation (more same_operation (more same_operation none)))))))),
    more (inr (refl, refl)) (more (inl refl) none),
  )

  calls : AlikeCalls levels L0 (one fuel) (two later)
  calls =
      inl
      (goes_on (alike_enter (inr (refl, refl)))
      (goes_on same_start (goes_on (alike_enter (inl refl)) (goes_on same_start ends))))

-- the published rows are their own, whatever the call
own : {A : Type 0} → A → Same (published levels) (published levels)
own _ q = refl

apart : Pair (one 6) (two third)
unfolding int_wrap
apart = record {
  left_proper = (
    (refl, (refl, (refl, (refl, (refl, (refl, tt)))))),
    (own, (own, (own, (own, (own, (own, tt)))))),
  );
  right_proper = (
    (refl, (refl, (refl, (refl, (refl, (refl, (refl, (refl, (refl, (refl, (refl, tt))))))))))),
    (own, (own, (own, (own, (own, (own, (own, (own, (own, (own, (own, tt))))))))))),
  );
  stations = stations 6 third;
  calls = calls 6 third;
}

together : Pair (one 20) (two [])
unfolding int_wrap
together = record {
  left_proper = (
    (refl, (refl, (refl, (refl, (refl, (refl, tt)))))),
    (own, (own, (own, (own, (own, (own, tt)))))),
  );
  right_proper = (
    (refl, (refl, (refl, (refl, (refl, (refl, (refl, (refl, (refl, (refl, tt)))))))))),
    (own, (own, (own, (own, (own, (own, (own, (own, (own, (own, tt)))))))))),
  );
  stations = stations 20 [];
  calls = calls 20 [];
}

pub returns : goal.returns
unfolding int_wrap
returns c = record {
  apart = apart;
  fewer_commands = refl;
  more_commands = refl;
  together = together;
  equally_many = refl;
  left_rests = refl;
  right_rests = refl;
}
