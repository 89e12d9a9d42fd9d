use Rattle.std.proofs.Common.{get_or}
use Rattle.plan.specs.Reading.{no_entry}
use Rattle.link.specs.Started.{started_flow}
use Rattle.link.proofs.FlowLoops.{Flowing}
use Rattle.link.proofs.fresh.start_flows.Given as goal

abbrev pub invariant-loop-i : goal.invariant-loop-i
invariant-loop-i l = Flowing (λ k. started_flow l.frame (get_or l.plan.entries k no_entry)) l.plan.count l.initial.s l.s l.i
