use Rattle.std.proofs.Common.{le-ltb}
use mathlib.Core.List.{flat_map}
use Rattle.calls.proofs.Stores.{puts_none}
use Rattle.meshwords.proofs.overloads.put_if_over.Goals as goal

pub returns-else-slots-load-clause-put : goal.returns-else-slots-load-clause-put
unfolding flat_map
returns-else-slots-load-clause-put c = rw (le-ltb _ _ c.if-slots-load.false) (puts_none _ _)
