-- The plans that are compared, and what is reported of them.
use Rattle.std.proofs.Common.{refl, sym, ◌∙◌, inl, subst}
use Rattle.boundary.specs.Exports.{CodesNoReport}
use Rattle.boundary.proofs.exports.senggubat_compare.Goals as goal
use Rattle.boundary.proofs.exports.senggubat_compare.Goals.{in-Ok-compare, in-Err}

pub returns : goal.returns
returns c = inl (record {
  one = _;
  two = _;
  one_is = record {
    program_is = refl;
    memory_is = refl;
    calls_are = refl;
    stack_is = c.as_slice.ensures.value ∙ c.in-Ok.ensures.items_if_clones_equal (λ y same. same);
    log_is =
        c.as_slice-2.ensures.value
        ∙ c.in-Ok-from_elem.ensures.items_if_clones_equal (λ y same. same);
  };
  two_is = record {
    program_is = refl;
    memory_is = refl;
    calls_are = refl;
    stack_is = c.as_slice.ensures.value ∙ c.in-Ok.ensures.items_if_clones_equal (λ y same. same);
    log_is =
        c.as_slice-2.ensures.value
        ∙ c.in-Ok-from_elem.ensures.items_if_clones_equal (λ y same. same);
  };
  told = c.compare.result;
  reports = c.compare.ensures;
  reported = elim c.match-compare.branch [
    | in-Ok-compare w ↦ rw w.in-Ok-compare.is w.report-is
    | in-Err w ↦ rw w.in-Err.is
        (subst (CodesNoReport w.in-Err.fault) (sym w.report-is) w.no_report-in-Err.ensures)
  ];
})
