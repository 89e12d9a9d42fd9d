use Rattle.unbooked.proofs.Operations.{cleared}
use Rattle.unbooked.proofs.bits.without.Goals as goal

pub returns : goal.returns
returns c = cleared 64 c.args.i c.args.word c.ranges.word.fits c.requires
