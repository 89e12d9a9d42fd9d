-- The lines of the flows below i are written.
use Rattle.link.specs.Steps.{read_in}
use Rattle.trace.specs.Trace.{flow_line}
use Rattle.trace.proofs.Numbers.{LinesTo}
use Rattle.trace.proofs.told.put_flows.Given as goal

abbrev pub invariant-loop-i : goal.invariant-loop-i
invariant-loop-i l = LinesTo (flow_line (read_in l.fn.plan l.s)) (λ j. j) l.fn.plan.count l.fn.out l.out l.at l.next l.i
