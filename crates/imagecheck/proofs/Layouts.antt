-- The layout of an image: its parts fit into it, and what it is by its plan. Assumes nothing.
use Prim.Native.Nat.{ℕ, ◌+◌, ◌*◌, ◌≤◌}
use mathlib.Core.Path.{◌≡◌, refl, ap}
use mathlib.Core.List.{◌∷◌, []}
use native.Mathlib.Nat.{mul-le-mul}
use native.Mathlib.Omega.{arith}
use lib.ListN.{get_or}
use Rattle.model.specs.Plan as model
use Rattle.model.proofs.Tables.{length-table}
use Rattle.plan.specs.declared.Plan.{Plan}
use Rattle.plan.specs.Reading.{plan_for, Valid}
use Rattle.imagemodel.specs.Image.{header_length, positions_at, flows_at, image_length, layout}
use Rattle.imagecheck.specs.declared.layout.Layout.{Layout}
use Rattle.imagecheck.specs.Layout.{fields_of, LaidOut, Sized}

-- ---- a plan that is read

module _ (p : Plan) where
  pub count_is : model.flow_count (plan_for p) ≡ p.count
  count_is = length-table p.count _

  pub count-few : Valid p → p.count ≤ 16
  count-few v = omega (arith, count_is, v.accepted.flows_most)

-- ---- the layout of a plan's images

-- as the code computes it
abbrev pub layout_for : Plan → Layout
layout_for p =
    let size = p.slots * p.frames in
    let positions = 30 + 4 * p.count in
    let flows = positions + 2 * size in
    record {
      total = flows + 2 * (p.count * (3 + size));
      plan = 18;
      positions = positions;
      size = size;
      flows = flows;
      count = p.count;
      fields = 3 + size;
    }

module _ (p : Plan) (v : Valid p) where
  -- what stands before the flows, and their fields
  pub part-most : p.count * (3 + p.slots * p.frames) ≤ 4144
  part-most =
      let fields : 3 + p.slots * p.frames ≤ 259 = omega (arith, v.accepted.positions_most) in
      mul-le-mul (count-few p v) fields

  pub laid_out : LaidOut (plan_for p) (layout_for p)
  laid_out =
      let n = count_is p in
      let fields = ap (◌* (3 + p.slots * p.frames)) n in
      let total : (layout_for p).total ≡ image_length (plan_for p) = omega arith in
      let positions : (layout_for p).positions ≡ positions_at (plan_for p) = omega arith in
      let flows : (layout_for p).flows ≡ flows_at (plan_for p) = omega arith in
      let count : p.count ≡ model.flow_count (plan_for p) = omega arith in
      record {
        is = λ k. total k ∷ 18 ∷ positions k ∷ (p.slots * p.frames) ∷ flows k ∷ count k ∷ [];
        fields_are = refl;
        short = omega (arith, part-most, count-few p v, v.accepted.positions_most);
      }

-- ---- what a layout says

module _ {P : model.Plan} {y : Layout} (v : LaidOut P y) where
  field_at : (k : ℕ) → get_or (fields_of y) k 0 ≡ get_or (layout P) k 0
  field_at k = ap (λ xs. get_or xs k 0) v.is

  pub total_is : y.total ≡ image_length P
  total_is = field_at 0

  pub plan-at : y.plan ≡ header_length
  plan-at = field_at 1

  pub positions-at : y.positions ≡ positions_at P
  positions-at = field_at 2

  pub size_is : y.size ≡ model.positions P
  size_is = field_at 3

  pub flows-at : y.flows ≡ flows_at P
  flows-at = field_at 4

  pub flows_are : y.count ≡ model.flow_count P
  flows_are = field_at 5

  pub sized : Sized y
  sized = record { ends = ends; short = v.short }
    where
      ends : y.total ≡ y.flows + 2 * (y.count * y.fields)
      ends = rw (flows_are, v.fields_are) (omega (arith, total_is, flows-at))
