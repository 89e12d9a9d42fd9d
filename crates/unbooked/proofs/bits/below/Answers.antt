use Rattle.unbooked.proofs.Operations.{shifted-ones}
use Rattle.unbooked.proofs.bits.below.Goals as goal

pub returns : goal.returns
returns c = shifted-ones 64 c.args.n c.requires.1
