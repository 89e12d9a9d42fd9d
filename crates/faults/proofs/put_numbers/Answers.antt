use Rattle.std.proofs.Common.{arith}
use Rattle.faults.proofs.ToldLines.{none-put, one-put}
use Rattle.faults.proofs.put_numbers.Goals as goal

pub loop-n-init : goal.loop-n-init
loop-n-init c = none-put _ _ _

pub loop-n-preserved : goal.loop-n-preserved
loop-n-preserved c = one-put c.loop-n.invariant (omega arith) c.put_number-next.ensures.put c.put_number-next.ensures.most
