use Rattle.link.proofs.FlowLoops.{Flowing}
use Rattle.link.proofs.LeavingHeads.{flow_left}
use Rattle.link.proofs.tick.leave_head.Given as goal

abbrev pub invariant-loop-i : goal.invariant-loop-i
invariant-loop-i l = Flowing (flow_left l.plan l.head l.on) l.plan.count l.initial.s l.s l.i
