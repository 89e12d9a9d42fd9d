use Rattle.std.proofs.Common.{arith, sym, ◌∙◌}
use Rattle.imagecheck.proofs.TestLoops.{passing-miss, passing-all}
use Rattle.imagecheck.proofs.flows.flows_kept.Goals as goal

pub returns-then-not-flow_kept : goal.returns-then-not-flow_kept
returns-then-not-flow_kept c = passing-miss c.loop-i.invariant c.loop-i-test.true (sym c.flow_kept.ensures ∙ c.if-not-flow_kept.true)

pub returns : goal.returns
returns c = passing-all c.loop-i.invariant (omega arith)
