use Rattle.std.proofs.Common.{get_or}
use Rattle.planwords.specs.Plans.{entry_asked}
use Rattle.faults.proofs.ToldEach.{ToldTo}
use Rattle.faultwords.specs.PlanFaults.{entry_faults}
use Rattle.faultwords.proofs.flows.tell_entries.Given as goal

-- the flows before flow i are told
abbrev pub invariant-loop-i : goal.invariant-loop-i
invariant-loop-i l = ToldTo (λ k. entry_faults (get_or l.numbers 0 0) (entry_asked l.numbers k) k) 15 l.initial.found l.found l.at l.next l.i
