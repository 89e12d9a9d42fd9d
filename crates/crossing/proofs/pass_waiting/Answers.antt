use Rattle.crossing.proofs.Tiles.{walked_none, walked-few, walked_more, walked-done}
use Rattle.crossing.proofs.pass_waiting.Goals as goal

pub loop-i-init : goal.loop-i-init
loop-i-init c = walked_none c.requires

pub pass_flow-requires : goal.pass_flow-requires
pass_flow-requires c = (c.loop-i.invariant.in_step, walked-few c.loop-i.invariant c.loop-i-test.true)

pub loop-i-preserved : goal.loop-i-preserved
loop-i-preserved c = walked_more c.loop-i.invariant c.loop-i-test.true c.pass_flow.ensures.is c.pass_flow.ensures.there

pub returns : goal.returns
returns c = record { is = walked-done c.loop-i.invariant c.loop-i-test.false; there = c.loop-i.invariant.in_step }
