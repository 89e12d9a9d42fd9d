use Rattle.std.proofs.Common.{arith}
use Rattle.planwords.proofs.DraftsAsked.{none-taken, one-taken, all-taken}
use Rattle.planwords.proofs.plans.entries.Goals as goal

pub loop-i-init : goal.loop-i-init
loop-i-init c = none-taken _

pub loop-i-preserved : goal.loop-i-preserved
loop-i-preserved c = one-taken c.loop-i.invariant (omega arith) c.wanted.ensures

pub returns : goal.returns
returns c = all-taken c.loop-i.invariant _ c.requires (λ h. omega arith)
