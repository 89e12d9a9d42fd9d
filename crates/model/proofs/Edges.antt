-- Every edge of the table comes out as it stands there. Assumes nothing.
use mathlib.Core.Path.{refl}
use Rattle.model.specs.Scheduler.{reference}
use Rattle.model.specs.EdgeCases.{Passes}
use Rattle.model.specs.Edges.{edges}
use Rattle.model.proofs.Unfoldings.{plans-compute, calls-compute, bursts-compute, writer-computes, program-computes}

pub edges-hold : Passes reference edges
unfolding edges plans-compute calls-compute bursts-compute writer-computes program-computes
edges-hold = refl
