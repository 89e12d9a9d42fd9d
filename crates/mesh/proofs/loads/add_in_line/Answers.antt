use Rattle.std.proofs.Common.{arith}
use Rattle.mesh.proofs.Lines.{none-added, one-added, added-small, all-added}
use Rattle.mesh.proofs.loads.add_in_line.Goals as goal

pub loop-step-init : goal.loop-step-init
loop-step-init c = none-added _ _ _ _ _ c.requires.small.whole

pub overflow_add-loads : goal.overflow_add-loads
overflow_add-loads c = record { fits = omega (arith, added-small c.loop-step.invariant c.requires.small c.requires.share_most c.place.result) }

pub loop-step-preserved : goal.loop-step-preserved
loop-step-preserved c = one-added c.loop-step.invariant c.loop-step-test.true c.place.ensures

pub returns : goal.returns
returns c = all-added c.loop-step.invariant c.loop-step-test.false
