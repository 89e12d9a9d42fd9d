use Rattle.extrawords.specs.Asked.{struct_asked}
use Rattle.extrawords.proofs.asked.Goals as goal

pub returns : goal.returns
unfolding struct_asked
returns c = rw (c.every_second-shares.ensures, c.every_second-worths.ensures)
