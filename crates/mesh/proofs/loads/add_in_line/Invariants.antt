use Rattle.mesh.proofs.Lines.{AddedTo}
use Rattle.mesh.proofs.loads.add_in_line.Given as goal

-- the links before this step are raised
abbrev pub invariant-loop-step : goal.invariant-loop-step
invariant-loop-step l = AddedTo l.initial.loads l.loads l.side l.line l.low l.high l.share l.step
