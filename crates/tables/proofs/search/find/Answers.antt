use Rattle.std.proofs.Common.{◌∙◌}
use Rattle.tables.proofs.ValidPositions.{search-after}
use Rattle.tables.proofs.search.find.Goals as goal

-- the departure is one more lower bound on ranks
pub returns : goal.returns
returns c = c.search.ensures ∙ search-after c.requires.masks.proper _ _ _ c.leave_rank.ensures c.max-low.ensures _ _ _ c.requires.frame
