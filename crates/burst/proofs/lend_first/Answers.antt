use Rattle.burst.proofs.Passes.{front-handled}
use Rattle.burst.proofs.lend_first.Goals as goal

pub returns : goal.returns
returns c = front-handled c.args.count c.args.link c.burst-last.result c.args.records _ c.burst-last.ensures
