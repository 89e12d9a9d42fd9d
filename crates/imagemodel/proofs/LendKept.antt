-- A lend leaves a link that meets the conditions. Assumes nothing.
use Prim.Native.Nat.{ℕ, zero, suc, ◌+◌, ◌%◌, ◌<◌}
use mathlib.Core.Path.{◌≡◌, refl, sym, subst}
use mathlib.Core.Option.{Option, some, none}
use mathlib.Core.Bool.{true}
use native.Mathlib.Nat.{mod-lt}
use native.Mathlib.Omega.{arith}
use lib.Dec.{ltb}
use Rattle.model.specs.Refusals.{first_of}
use Rattle.model.specs.Plan.{flow_count}
use Rattle.model.specs.Calls.{in_mask}
use Rattle.model.specs.Window.{every_from}
use Rattle.model.specs.Link.{Link, Flow, window, flow, holding, cells, with_held, held_from}
use Rattle.model.specs.Lend.{can_take, takes, lend_tests, lent_to, first_in_turn, lent_after, lend_after, lend}
use Rattle.model.proofs.Tests.{and-true}
use Rattle.model.proofs.Tables.{length-table, first_from-some}
use Rattle.model.proofs.Slots.{current-in-window}
use Rattle.model.proofs.LinkUpdates.{each_flow}
use Rattle.imagemodel.specs.Consistent.{Keepable}
use Rattle.imagemodel.proofs.BySlots.{FlowAt, HoldsWell, LinkAt, at-current, kept_at}
use Rattle.imagemodel.proofs.Holdings.{raised-well}

lent_at : {l : Link} {t : ℕ} → LinkAt l t → {i : ℕ} → i < flow_count l.plan → can_take l i ≡ true → LinkAt (lent_to l i) t
unfolding lent_to can_take
lent_at {l} {t} v {i} known can = record {
  current = v.current;
  turn_below = mod-lt (i + 1) (omega arith);
  owners_long = v.owners_long;
  flows_long = length-table (flow_count l.plan) _;
  owners_known = v.owners_known;
  flows = each_flow l (FlowAt l.plan t l.owners) i x own (λ j h d. v.flows j h);
}
  where
    x : Flow
    x = with_held (flow l i) (held_from l i l.current suc)

    room : (q : ℕ) → l.current ≡ q → every_from (window l) q (λ r. ltb (holding l i r) (cells l i)) ≡ true
    room q e = subst (λ q. every_from (window l) q (λ r. ltb (holding l i r) (cells l i)) ≡ true) e can

    holds : HoldsWell l.plan t l.owners i x.held
    holds =
        subst (λ q. HoldsWell l.plan t l.owners i (held_from l i q suc)) (sym v.current.current_is)
        (raised-well v known (current-in-window v.current.accepted t) l.owners (room _ v.current.current_is)
        (λ r w after. omega arith) (λ lt. absurd (omega arith)) (λ lt. absurd (omega arith)))

    own : FlowAt l.plan t l.owners i x
    own = record { spends = (v.flows i known).spends; within_share = (v.flows i known).within_share; holds = holds; number_below = (v.flows i known).number_below }

pub lend-kept : {l : Link} → Keepable l → (mask : ℕ) → Keepable (lend l mask).link
unfolding lend lend_after lent_after first_in_turn
lend-kept {l} v mask = go (first_of (lend_tests l mask))
  where
    n : ℕ
    n = flow_count l.plan

    lent : (o : Option ℕ) → first_in_turn l mask ≡ o → Keepable (lent_after l o).link
    lent none e = v
    lent (some k) e =
        let hit = first_from-some n l.turn (λ k. takes l mask (k % n)) k e in
        let can = (and-true (in_mask mask (k % n)) (can_take l (k % n)) hit.passes).1 in
        kept_at (lent_at (at-current v) (mod-lt k (omega (arith, v.accepted.some_flow))) can)

    go : (r : ℕ) → Keepable (lend_after r l mask).link
    go zero = lent (first_in_turn l mask) refl
    go (suc r) = v
