-- What is left of the run, with its exchanges in a vector.
use Rattle.std.proofs.Common.{length, sym, ap, ◌∙◌}
use Rattle.std.proofs.lemmas.List.{with_items_is}
use Rattle.compare.proofs.plans.Plan.run.Goals as goal

pub returns : goal.returns
returns g c =
    let exchanges = c.args.self.exchanges in
    let is = with_items_is exchanges c.make_all-site.new.exchanges
    (c.make_all-site.auto.exchanges ∙ ap length c.as_mut_slice.ensures.value ∙ sym exchanges.ok.0) in
    let plays = rw c.as_mut_slice.ensures.value at c.make_all-site.ensures in
    (c.in_ok-site.site, c.in_ok-site.ensures, rw is plays)
