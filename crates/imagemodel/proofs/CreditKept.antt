-- A credit leaves a link that meets the conditions. Assumes nothing.
use Prim.Native.Nat.{ℕ, zero, suc, ◌-◌}
use mathlib.Core.Path.{◌≡◌, refl, subst}
use Rattle.model.specs.Refusals.{first_of}
use Rattle.model.specs.Plan.{flow_count}
use Rattle.model.specs.Link.{Link, Flow, flow, with_held, held_from}
use Rattle.model.specs.Credit.{credit_tests, lowered, credit_after, credit}
use Rattle.model.proofs.Tables.{length-table}
use Rattle.model.proofs.Slots.{slot_at-in-window, slot_at-position}
use Rattle.model.proofs.LinkUpdates.{each_flow}
use Rattle.model.proofs.CreditKeeps.{CreditPasses, credit-passes}
use Rattle.imagemodel.specs.Consistent.{Keepable}
use Rattle.imagemodel.proofs.BySlots.{FlowAt, HoldsWell, LinkAt, at-current, kept_at}
use Rattle.imagemodel.proofs.Holdings.{lowered-well}

lowered-at : {l : Link} {t : ℕ} → LinkAt l t → {i p : ℕ} → CreditPasses l i p → LinkAt (lowered l i p) t
unfolding lowered
lowered-at {l} {t} v {i} {p} c = record {
  current = v.current;
  turn_below = v.turn_below;
  owners_long = v.owners_long;
  flows_long = length-table (flow_count l.plan) _;
  owners_known = v.owners_known;
  flows = each_flow l (FlowAt l.plan t l.owners) i x own (λ j h d. v.flows j h);
}
  where
    x : Flow
    x = with_held (flow l i) (held_from l i p (λ y. y - 1))

    holds : HoldsWell l.plan t l.owners i x.held
    holds =
        subst (λ q. HoldsWell l.plan t l.owners i (held_from l i q (λ y. y - 1)))
        (slot_at-position v.current.accepted t p c.position) (lowered-well v c.known (slot_at-in-window v.current.accepted t p))

    own : FlowAt l.plan t l.owners i x
    own = record { spends = (v.flows i c.known).spends; within_share = (v.flows i c.known).within_share; holds = holds; number_below = (v.flows i c.known).number_below }

pub credit-kept : {l : Link} → Keepable l → (i p : ℕ) → Keepable (credit l i p).link
unfolding credit credit_after
credit-kept {l} v i p = go (first_of (credit_tests l i p)) refl
  where
    go : (r : ℕ) → first_of (credit_tests l i p) ≡ r → Keepable (credit_after r l i p).link
    go zero e = kept_at (lowered-at (at-current v) (credit-passes l i p e))
    go (suc r) e = v
