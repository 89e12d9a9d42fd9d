use Rattle.std.proofs.Common.{sym, ◌∙◌}
use Rattle.window.proofs.Ranks.{rank_is}
use Rattle.window.proofs.Window.rank.Goals as goal

pub returns : goal.returns
returns c = c.ahead.ensures ∙ sym (rank_is _ c.requires.proper _)
