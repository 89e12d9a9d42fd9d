use Rattle.std.proofs.Common.{refl}
use Rattle.tables.specs.Owners.{everywhere}
use Rattle.tables.proofs.holdings.unheld.Goals as goal

pub returns : goal.returns
unfolding everywhere
returns c = refl
