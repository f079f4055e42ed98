-- The rows that it holds give the published table.
use Rattle.rules.proofs.Published.{rows_published}
use Rattle.rules.proofs.rows.RowTable.new.Goals as goal

pub returns-clause-faithful : goal.returns-clause-faithful
returns-clause-faithful g c = rw c.published_rows.ensures (rows_published g.met.L.Label.lawful)
