use Rattle.link.specs.Layout.{no_flow}
use Rattle.link.proofs.FlowLoops.{Flowing}
use Rattle.link.proofs.fresh.no_flows.Given as goal

abbrev pub invariant-loop-i : goal.invariant-loop-i
invariant-loop-i l = Flowing (λ k f. no_flow) 16 l.initial.s l.s l.i
