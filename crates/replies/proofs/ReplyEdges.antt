-- Every edge of what answers are made of comes out as expected. Assumes nothing.
use mathlib.Core.Path.{refl}
use mathlib.Core.List.{flat_map}
use Rattle.model.specs.Listing.{digits, decimal}
use Rattle.replies.specs.Lines.{hex, fault_line}
use Rattle.replies.specs.ReplyEdges.{HexPass, hex_edges, NumbersPass, number_edges, ThreePass, FaultsPass, fault_edges}

pub hex-holds : HexPass hex_edges
unfolding hex_edges hex flat_map
hex-holds = refl

pub numbers-hold : NumbersPass number_edges
unfolding number_edges digits decimal
numbers-hold = refl

pub three-holds : ThreePass
unfolding digits decimal
three-holds = refl

pub faults-hold : FaultsPass fault_edges
unfolding fault_edges fault_line
faults-hold = refl
