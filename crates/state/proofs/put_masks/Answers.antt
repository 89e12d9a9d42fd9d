use Rattle.std.proofs.Common.{refl, arith}
use Rattle.state.proofs.State.{masking-none, masking-more, masking-done}
use Rattle.state.proofs.put_masks.Goals as goal

pub loop-j-init : goal.loop-j-init
loop-j-init c = masking-none c.requires.0

pub loop-j-preserved : goal.loop-j-preserved
loop-j-preserved c = masking-more c.loop-j.invariant c.loop-j-test.true refl c.put_mask.ensures.fits c.put_mask.ensures.is

pub returns : goal.returns
returns c = masking-done c.loop-j.invariant c.requires.1 (omega arith)
