-- The conditions on the link of an image that is there: what they are tested by. Assumes nothing.
use Prim.Native.Nat.{ℕ, ◌+◌, ◌*◌, ◌≤◌, ◌<◌}
use mathlib.Core.Path.{◌≡◌, sym, ap, ◌∙◌}
use mathlib.Core.List.{List}
use mathlib.Core.Bool.{◌&&◌}
use native.Mathlib.Omega.{arith}
use mathlib.Core.Option.{none}
use lib.ListN.{length, get_or}
use lib.Dec.{ltb}
use Rattle.model.specs.Tables.{every}
use Rattle.model.specs.Plan as model
use Rattle.model.specs.Link.{no_flow}
use Rattle.plan.specs.declared.Plan.{Plan}
use Rattle.plan.specs.Reading.{plan_for}
use Rattle.window.specs.Window.{Measures}
use Rattle.window.proofs.Tabulated.{get_d-table, every-same}
use Rattle.imagemodel.specs.Image.{field_at, owner_in, positions_at, flow_in, link_from}
use Rattle.imagemodel.specs.Consistent.{known, flow_test, consistent}
use Rattle.imagecheck.specs.declared.layout.Layout.{Layout}
use Rattle.imagecheck.specs.Flows.{flow_kept}
use Rattle.imagecheck.specs.Asked.{PlanOn}
use Rattle.imagecheck.proofs.Layouts.{count_is, positions-at, size_is, flows_are}

module _ {b : List ℕ} {y : Layout} {p : Plan} (v : PlanOn b y p) where
  abbrev P : model.Plan
  P = plan_for p

  pub owners_there : y.positions + 2 * y.size ≤ length b
  owners_there = omega (arith, positions-at v.laid, size_is v.laid, v.there)

  pub measures : (current : ℕ) → current < y.size → Measures p.slots p.frames current
  measures current h = let a = v.valid.accepted in record {
    some_slot = a.some_slot;
    slots_most = a.slots_most;
    two_frames = a.two_frames;
    frames_most = a.frames_most;
    positions_most = a.positions_most;
    current_below = omega (arith, size_is v.laid);
  }

  owners_are : every (model.positions P) (λ q. known (model.flow_count P) (owner_in (field_at b (positions_at P) q)))
      ≡ every y.size (λ q. known y.count (owner_in (field_at b y.positions q)))
  owners_are = λ k. every (size k) (λ q. known (count k) (owner_in (field_at b (at k) q)))
    where
      size : model.positions P ≡ y.size
      size = sym (size_is v.laid)

      count : model.flow_count P ≡ y.count
      count = sym (flows_are v.laid)

      at : positions_at P ≡ y.positions
      at = sym (positions-at v.laid)

  -- the tests at a current position, with a flow to look from
  pub link-by-fields : (current look : ℕ) → current ≡ model.field16 b 12 → look ≡ model.field16 b 16
      → consistent (link_from b P)
      ≡ ltb current y.size
      && ltb look y.count
      && every y.size (λ q. known y.count (owner_in (field_at b y.positions q)))
      && every p.count (flow_kept b P current)
  unfolding consistent
  link-by-fields current look e f = rw (e, f)
      (λ k. ltb (model.field16 b 12) (size k) && ltb (model.field16 b 16) (count k) && owners k && flows k)
    where
      count : model.flow_count P ≡ y.count
      count = sym (flows_are v.laid)

      size : model.positions P ≡ y.size
      size = sym (size_is v.laid)

      owners : every (model.positions P) (λ q. known (model.flow_count P) (get_or (link_from b P).owners q none))
          ≡ every y.size (λ q. known y.count (owner_in (field_at b y.positions q)))
      owners =
          every-same (model.positions P) _ _ (λ q l. ap (known (model.flow_count P)) (get_d-table (model.positions P) _ q none l))
          ∙ owners_are

      flows : every (model.flow_count P) (λ i. flow_test P (model.field16 b 12) (link_from b P).owners i (get_or (link_from b P).flows i no_flow))
          ≡ every p.count (flow_kept b P (model.field16 b 12))
      flows =
          every-same (model.flow_count P) _ _
          (λ i l. ap (flow_test P (model.field16 b 12) (link_from b P).owners i) (get_d-table (model.flow_count P) (flow_in b P) i no_flow l))
          ∙ ap (λ n. every n (flow_kept b P (model.field16 b 12))) (count_is p)
