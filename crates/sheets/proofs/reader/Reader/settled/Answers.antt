-- The cells that `settled` collects.
use Rattle.std.proofs.Common.{◌≡◌, ◌∙◌, rules, map, Option, unwrap_or}
use Rattle.std.proofs.lemmas.Iterator.{items_from_collect, YieldsList-from_map}
use Rattle.std.proofs.lemmas.Iterator.{YieldsList-from_slice}
use Rattle.std.proofs.lemmas.Iterator.Consumers.{YieldsList-at}
use Rattle.machine.specs.declared.parts.Labelled.{Labelled}
use Rattle.sheets.specs.Parts.{zero_at}
use Rattle.sheets.proofs.Given.{at_ok_value, some_there}
use Rattle.sheets.proofs.reader.Reader.settled.Goals as goal

pub returns : goal.returns
returns g c =
    let cell : Option (Labelled g.row.L.Denot) → Labelled g.row.L.Denot =
    λ o. unwrap_or o (zero_at g.L.Label.kind.bottom) in
    record {
      sized =
          some_there c.args.memory (search (rules, c.if-is_none-2.false, c.if-is_none-2.ensures));
      cells =
          at_ok_value c.collect.result c.in_ok-memory.memory
          (λ w. w.items ≡ map cell c.args.given.cells.items) c.in_ok-memory.was
          (items_from_collect c.collect.result c.collect.ensures.ran
          (YieldsList-from_map _ cell
          (YieldsList-at c.map.ensures.source
          (YieldsList-from_slice c.args.given.cells.items
          (c.iter.ensures.rest ∙ c.deref.ensures.value))) c.map.ensures.closure
          (λ x r q k. search rules)));
      stack = c.unwrap_or.ensures;
      log = c.unwrap_or-2.ensures;
    }
