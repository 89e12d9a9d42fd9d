use Rattle.planwords.specs.Plans.{plan_asked}
use Rattle.faults.proofs.ToldEach.{ToldTo}
use Rattle.faultwords.specs.PlanFaults.{alike_faults}
use Rattle.faultwords.proofs.flows.tell_repeats.Given as goal

-- the flows before flow j are told
abbrev pub invariant-loop-j : goal.invariant-loop-j
invariant-loop-j l = ToldTo (alike_faults (plan_asked l.numbers)) 3 l.initial.found l.found l.at l.next l.j
