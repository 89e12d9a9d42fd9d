-- The fresh link, as it is read. Assumes nothing.
use Prim.Native.Nat.{ℕ, ◌*◌, ◌≤◌, ◌<◌}
use mathlib.Core.Path.{◌≡◌, sym, ap, ◌∙◌}
use mathlib.Core.List.{List}
use mathlib.Core.Bool.{true, false}
use mathlib.Core.Option.{none}
use native.Mathlib.Omega.{arith}
use lib.ListN.{length, get_or, replicate}
use Rattle.model.specs.Tables.{table}
use Rattle.model.specs.Plan as reference
use Rattle.model.specs.Link as model
use Rattle.model.specs.Fresh.{fresh}
use Rattle.plan.specs.declared.Plan.{Plan}
use Rattle.plan.specs.Reading as plan
use Rattle.link.specs.Parts.{Parts}
use Rattle.unbooked.specs.Words.{Words}
use Rattle.tables.specs.Holdings.{nothing_held}
use Rattle.link.specs.Layout.{flow_row, flow_at, no_flow}
use Rattle.tables.specs.Owners.{nobody, owner_of, everywhere}
use Rattle.link.specs.Reading.{flow_of, link_of}
use Rattle.link.specs.Started.{no_flows, started_flow, started_flows}
use Rattle.link.specs.Sound.{Sound}
use Rattle.window.proofs.Tabulated.{table_same, replicate-table}
use Rattle.tables.proofs.FreshTables.{nothing-at, length-nothing, row-of-nothing}
use Rattle.link.proofs.Plans.{plan-count, plan-entry, count_most}
use Rattle.link.proofs.StartedFlows.{measures-start, read-unowned, sound-unowned, started-at, started-past, length-started}
use Rattle.link.proofs.StartedFlows.{no-flow-at, length-no-flows}

-- ---- the link

abbrev pub fresh_link : Plan → (unbooked : List ℕ) → Parts
fresh_link p u = record {
  plan = p;
  current = 0;
  owner = everywhere nobody;
  unbooked = u;
  flows = started_flows 0 p.entries p.count no_flows;
  held = nothing_held;
  marked = false;
  turn = 0;
}

module _ (p : Plan) (v : plan.Valid p) (u : List ℕ) where
  few : p.count ≤ length no_flows
  few = rw length-no-flows (count_most p v)

  flow-at : (i : ℕ) → i < p.count → flow_at (fresh_link p u) i ≡ flow_row (started_flow 0 (get_or p.entries i plan.no_entry) no_flow) (everywhere 0)
  flow-at i h =
      let below : i < 16 = omega (arith, count_most p v) in
      rw (started-at 0 p.entries p.count no_flows few i h, no-flow-at i below, row-of-nothing i below)

  pub read-fresh : link_of (fresh_link p u) ≡ fresh (plan.plan_for p)
  unfolding link_of fresh
  read-fresh = cc (owners, flows)
    where
      T : ℕ
      T = p.slots * p.frames

      owners : table T (λ q. owner_of (get_or (everywhere nobody) q 0)) ≡ replicate T none
      owners = read-unowned T v.accepted.positions_most ∙ sym (replicate-table T none)

      held : table T (λ q. get_or (everywhere 0) q 0) ≡ replicate T 0
      held = table_same T _ _ (λ q b. nothing-at q) ∙ sym (replicate-table T 0)

      start : ℕ → model.Flow
      start i = record { injection = 0; remainder = (reference.entry (plan.plan_for p) i).share; held = replicate T 0; number = 0 }

      flows : table p.count (λ i. flow_of T (flow_at (fresh_link p u) i)) ≡ table (reference.flow_count (plan.plan_for p)) start
      flows =
          table_same p.count _ start (λ i h. ap (flow_of T) (flow-at i h) ∙ rw (plan-entry p i h, held))
          ∙ ap (λ (n : ℕ). table n start) (sym (plan-count p))

  pub sound-fresh : Words p.slots p.frames (λ q. true) u → Sound (fresh_link p u)
  sound-fresh words = let unowned = sound-unowned p v words in record {
    plan = v;
    current = (measures-start p v).current_below;
    owners_long = unowned.long;
    owners = unowned.owned;
    spare_owners = unowned.spare;
    unbooked = unowned.words;
    flows_long = length-started 0 p.entries p.count no_flows ∙ length-no-flows;
    held_long = length-nothing;
    flows = λ i h. rw (flow-at i h) (record {
      frame = omega (arith, v.accepted.two_frames);
      spare = λ q _. nothing-at q;
      number = omega arith;
    });
    spare_flows = λ i h b. rw (started-past 0 p.entries p.count no_flows i h, no-flow-at i b, row-of-nothing i b);
    turn = rw (plan-count p) at v.accepted.some_flow;
  }
