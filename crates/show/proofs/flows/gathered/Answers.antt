use Rattle.std.proofs.Common.{arith}
use Rattle.show.proofs.LinkFlows.{none-gathered, few-gathered, one-gathered, all-gathered}
use Rattle.show.proofs.flows.gathered.Goals as goal

pub loop-i-init : goal.loop-i-init
loop-i-init c = none-gathered _ _ _ _ _ c.none-draft.ensures

pub with_stream-draft-requires : goal.with_stream-draft-requires
with_stream-draft-requires c = omega (arith, few-gathered c.loop-i.invariant)

pub loop-i-preserved : goal.loop-i-preserved
loop-i-preserved c = one-gathered c.loop-i.invariant c.loop-i-test.true c.at.ensures c.at-in-loop-i.ensures c.with_stream-draft.ensures

pub returns : goal.returns
returns c = all-gathered _ c.loop-i.invariant c.none-draft.ensures (omega arith)
