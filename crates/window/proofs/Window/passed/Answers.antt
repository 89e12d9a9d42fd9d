use Rattle.std.proofs.Common.{sym}
use Rattle.window.proofs.Ranks.{passed_is}
use Rattle.window.proofs.Window.passed.Goals as goal

pub returns : goal.returns
returns c = rw c.rank.ensures (sym (passed_is _ c.requires.proper _ c.requires.below))
