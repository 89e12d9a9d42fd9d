use Rattle.std.proofs.Common.{◌+◌, set}
use Rattle.tables.specs.Bounds.{raised}
use Rattle.tables.proofs.holdings.raise_from.Goals as goal

pub returns : goal.returns
unfolding raised
returns c = λ k. set (c.shift_from.ensures k) (4480 + c.args.i) (c.saturating_inc.ensures k)
