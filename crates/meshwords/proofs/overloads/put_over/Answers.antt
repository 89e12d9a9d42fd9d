use Rattle.std.proofs.Common.{arith}
use Rattle.meshwords.proofs.OverLines.{none-put, one-put}
use Rattle.meshwords.proofs.overloads.put_over.Goals as goal

pub loop-k-init : goal.loop-k-init
loop-k-init c = none-put _ _ _ _

pub loop-k-preserved : goal.loop-k-preserved
loop-k-preserved c = one-put c.loop-k.invariant (omega arith) c.put_if_over-next.ensures.put c.put_if_over-next.ensures.most
