use Rattle.plan.specs.Reading.{plan_for}
use Rattle.imagecheck.specs.Flows.{flow_kept}
use Rattle.imagecheck.proofs.TestLoops.{Passing}
use Rattle.imagecheck.proofs.flows.flows_kept.Given as goal

-- the flows so far pass
abbrev pub invariant-loop-i : goal.invariant-loop-i
invariant-loop-i l = Passing (flow_kept l.image (plan_for l.plan) l.w.current) l.plan.count l.i
