use Rattle.link.proofs.Told.{credit-told}
use Rattle.link.proofs.Link.credit.Goals as goal

pub returns : goal.returns
returns c = rw c.told.ensures (credit-told _ _ _ c.credit-number.ensures)
