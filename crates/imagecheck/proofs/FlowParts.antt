-- A flow's part in an image that is there: what it is tested by. Assumes nothing.
use Prim.Native.Nat.{ℕ, ◌+◌, ◌*◌, ◌<◌}
use mathlib.Core.Path.{◌≡◌, sym, ap, ◌∙◌}
use mathlib.Core.List.{List}
use mathlib.Core.Bool.{◌&&◌}
use native.Mathlib.Omega.{arith}
use lib.ListN.{get_or}
use lib.Dec.{ltb}
use Rattle.model.specs.Plan as model
use Rattle.model.specs.Plan.{field16}
use Rattle.model.specs.Window.{size}
use Rattle.model.proofs.Tables.{get_d-table}
use Rattle.plan.specs.declared.Entry.{Entry}
use Rattle.plan.specs.declared.Plan.{Plan}
use Rattle.plan.specs.Reading.{entry_for, no_entry, plan_for}
use Rattle.window.specs.declared.Window.{Window}
use Rattle.window.specs.Window.{window_of, size_of}
use Rattle.imagecheck.specs.declared.layout.Layout.{Layout}
use Rattle.imagecheck.specs.Flows.{spends_well, holds_well, flow_kept}
use Rattle.imagecheck.specs.Asked.{PartsOn, OwnersOn}
use Rattle.imagecheck.proofs.Layouts.{size_is as layout-size, count-few, positions-at, flows-at}
use Rattle.imagecheck.proofs.FlowFields.{part, flow-by-fields}

module _ {b : List ℕ} {y : Layout} {p : Plan} {w : Window} (v : PartsOn b y p w) where
  size_is : size_of w ≡ p.slots * p.frames
  size_is = ap size v.window_is

  module _ (i : ℕ) (h : i < p.count) where
    pub flow-few : i < 16
    flow-few = omega (arith, count-few p v.on.valid)

    pub owners-on : OwnersOn b y.positions w i
    owners-on = record {
      proper = v.proper;
      flow = flow-few;
      owners_there = omega (arith, size_is, positions-at v.on.laid, v.on.there);
    }

    entry_is : model.entry (plan_for p) i ≡ entry_for (get_or p.entries i no_entry)
    entry_is = get_d-table p.count _ i _ h

    part-is : {at : ℕ} → at ≡ y.flows + 2 * (i * y.fields) → part b (plan_for p) v.on.valid.accepted w.current i ≡ at
    part-is e = sym (e ∙ rw (flows-at v.on.laid, v.on.laid.fields_are))

    -- the tests of flow i, whose part stands at a place, with its entry e
    pub flow_is : (e : Entry) {at : ℕ} → e ≡ get_or p.entries i no_entry → at ≡ y.flows + 2 * (i * y.fields)
        → flow_kept b (plan_for p) w.current i
        ≡ spends_well b y.positions at (window_of w) i e.share && holds_well b y.positions (at + 4) (window_of w) i e.cells
        && ltb (field16 b (at + 4 + 2 * y.size)) 1024
    flow_is e {at} is place =
        let owners = sym (positions-at v.on.laid) in
        let window = sym v.window_is in
        let size = sym (layout-size v.on.laid) in
        let entry = entry_is ∙ ap entry_for (sym is) in
        flow-by-fields b (plan_for p) v.on.valid.accepted w.current i
        ∙ (λ k. spends_well b (owners k) (part-is place k) (window k) i (entry k).share
        && holds_well b (owners k) (part-is place k + 4) (window k) i (entry k).cells
        && ltb (field16 b (part-is place k + 4 + 2 * size k)) 1024)
