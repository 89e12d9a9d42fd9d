use Rattle.link.proofs.FlowLoops.{Flowing}
use Rattle.imagecodec.specs.Reading.{part_at, flow_from}
use Rattle.imagecodec.proofs.flows.read_flows.Given as goal

-- the flows so far are stored
abbrev pub invariant-loop-i : goal.invariant-loop-i
invariant-loop-i l = Flowing (λ j f. flow_from l.image l.l.size (part_at l.l j)) l.l.count l.initial.s l.s l.i
