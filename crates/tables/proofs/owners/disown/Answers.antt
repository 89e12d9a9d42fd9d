use Rattle.state.specs.State.{with_owners}
use Rattle.tables.proofs.owners.disown.Goals as goal

pub returns : goal.returns
unfolding with_owners
returns c = rw (← c.unbooked.ensures) c.put_table.ensures
