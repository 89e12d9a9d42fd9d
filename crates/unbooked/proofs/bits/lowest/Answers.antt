use Rattle.unbooked.proofs.Trailing.{trailing-lowest}
use Rattle.unbooked.proofs.bits.lowest.Goals as goal

pub returns : goal.returns
returns c = trailing-lowest c.args.word c.ranges.word.fits
