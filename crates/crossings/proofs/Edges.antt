-- Each edge comes out as it stands in its table, and counted a slot longer tiles may be more than the cells. Assumes nothing.
use Prim.Native.Nat.{◌+◌, ◌≤◌}
use mathlib.Core.Path.{◌≡◌, refl}
use native.Mathlib.Omega.{arith}
use Rattle.model.specs.Plan.{plan_of}
use Rattle.crossings.specs.Crossing.{served}
use Rattle.crossings.specs.Edges.{outcome, one_cell, slots_one, outcome_one, crosses_one, WithinCellsOf}
use Rattle.crossings.proofs.Unfoldings.{crossings-compute}

pub edge-one : outcome 1 (crosses_one served slots_one) ≡ outcome_one
unfolding crossings-compute
edge-one = refl

-- In slot 2 the first tile leaves and the second comes: one cell has both if the slot in which a tile leaves is counted too.
pub one-slot-more : WithinCellsOf 1 (plan_of one_cell) (plan_of one_cell) 0 0 (crosses_one served slots_one) → ⊥
unfolding crossings-compute
one-slot-more within = let x : 2 ≤ 0 + 1 = within 1 in omega arith
