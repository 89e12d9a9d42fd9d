-- Every edge of the line of faults comes out as expected. Assumes nothing.
use mathlib.Core.Path.{refl}
use mathlib.Core.List.{flat_map}
use Rattle.model.specs.Listing.{digits, decimal}
use Rattle.faults.specs.FaultEdges.{Pass, fault_edges}

pub fault-lines-hold : Pass fault_edges
unfolding flat_map digits decimal fault_edges
fault-lines-hold = refl
