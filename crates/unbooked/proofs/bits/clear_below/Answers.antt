use Rattle.unbooked.proofs.Operations.{shifted_back, none_from}
use Rattle.unbooked.proofs.bits.clear_below.Goals as goal

pub returns-then-n-ge64 : goal.returns-then-n-ge64
returns-then-n-ge64 c = none_from 64 c.args.n c.args.word c.ranges.word.fits c.if-n-ge64.true

pub returns : goal.returns
returns c = shifted_back 64 c.args.n c.args.word c.ranges.word.fits
