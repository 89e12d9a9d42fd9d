use Rattle.std.proofs.Common.{arith}
use Rattle.plan.proofs.FlowPart.{none-stored, one-more-stored, all-stored}
use Rattle.plan.proofs.entries.put_entries.Goals as goal

pub loop-i-init : goal.loop-i-init
loop-i-init c = none-stored _ _ _

pub put_entry-requires : goal.put_entry-requires
put_entry-requires c = (c.requires.0.bytes c.loop-i.i c.loop-i-test.true, omega (arith, c.loop-i.invariant.same_length))

pub loop-i-preserved : goal.loop-i-preserved
loop-i-preserved c = one-more-stored _ c.loop-i.invariant c.loop-i-test.true c.requires.1 c.put_entry.ensures

pub returns : goal.returns
returns c = all-stored c.loop-i.invariant (omega arith)
