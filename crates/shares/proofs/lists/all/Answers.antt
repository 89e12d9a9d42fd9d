use Rattle.std.proofs.Common.{arith}
use Rattle.shares.proofs.AllLists.{most-lists}
use Rattle.shares.proofs.lists.all.Goals as goal

pub pow-requires : goal.pow-requires
pow-requires c = omega (arith, most-lists c.args.slots c.args.flows c.requires.0 c.requires.1)
