use Rattle.std.proofs.Common.{leb, ap, ◌∙◌}
use Rattle.tables.proofs.holdings.room_from.Goals as goal

pub returns : goal.returns
returns c = ap (leb c.room_rank.result) c.rank.ensures ∙ c.room_rank.ensures.is _ c.requires.position
