use Rattle.tables.specs.Rows.{with_row}
use Rattle.tables.proofs.holdings.store.Goals as goal

pub returns : goal.returns
unfolding with_row
returns c = c.put_table.ensures
