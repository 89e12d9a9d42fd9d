-- Every edge of the table comes out as it stands there. Assumes nothing.
use mathlib.Core.Path.{refl}
use Rattle.model.specs.Tables.{any, sum, first_from}
use Rattle.extras.specs.Extras.{share_of, worth_of, greatest, layer_inside, outside, choose}
use Rattle.extras.specs.Edges.{Passes, edges}

pub edges-hold : Passes edges
unfolding edges any sum first_from share_of worth_of greatest layer_inside outside choose
edges-hold = refl
