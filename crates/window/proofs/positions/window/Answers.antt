use Rattle.window.proofs.Windows.{proper}
use Rattle.window.proofs.positions.window.Goals as goal

pub returns-clause-proper : goal.returns-clause-proper
returns-clause-proper c = proper _ _ _ c.requires
