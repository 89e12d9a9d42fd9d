use Rattle.std.proofs.Common.{◌≡◌}
use Rattle.model.specs.Plan.{entry, same_pair}
use Rattle.planwords.specs.Plans.{plan_asked}
use Rattle.faults.proofs.ToldEach.{Searched}
use Rattle.faultwords.proofs.flows.tell_alike.Given as goal

-- no flow before flow i has the nodes of flow j
abbrev pub invariant-loop-i : goal.invariant-loop-i
invariant-loop-i l = record {
  searched : Searched (λ k. same_pair (entry (plan_asked l.numbers) k) (entry (plan_asked l.numbers) l.j)) l.j l.i;
  same : l.found ≡ l.initial.found;
}
