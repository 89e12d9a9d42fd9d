use Rattle.std.proofs.Common.{refl, arith}
use Rattle.link.proofs.FlowLoops.{flowing-none, flowing-put, flowing-done}
use Rattle.link.proofs.StateFresh.{all-spare}
use Rattle.link.proofs.fresh.no_flows.Goals as goal

pub loop-i-init : goal.loop-i-init
loop-i-init c = flowing-none (omega arith) c.requires

pub loop-i-preserved : goal.loop-i-preserved
loop-i-preserved c = flowing-put c.loop-i.invariant c.loop-i-test.true refl c.put_flow.ensures

pub returns : goal.returns
returns c = rw (← all-spare c.args.s.now) (flowing-done c.loop-i.invariant (omega arith))
