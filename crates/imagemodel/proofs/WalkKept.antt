-- A flow's injection frame moved along the walk over frames, and nothing else, leaves a link that meets the conditions. Assumes nothing.
use Prim.Native.Nat.{ℕ, zero, suc, ◌+◌, ◌-◌, ◌%◌, ◌<◌}
use mathlib.Core.Path.{◌≡◌, refl, ap, ◌∙◌}
use native.Mathlib.Nat.{mod-add-mod}
use native.Mathlib.Omega.{arith}
use Rattle.model.specs.Tables.{ahead}
use Rattle.model.specs.Plan.{flow_count}
use Rattle.model.specs.Window.{head}
use Rattle.model.specs.Link.{Link, window, flow, share, with_flow, moved_to}
use Rattle.model.specs.History.{frame_of}
use Rattle.model.proofs.Round.{ahead-mod}
use Rattle.model.proofs.Tables.{length-table}
use Rattle.model.proofs.Slots.{some-frame}
use Rattle.model.proofs.Window.{head_is}
use Rattle.model.proofs.LinkUpdates.{each_flow}
use Rattle.imagemodel.specs.Consistent.{bookings_in}
use Rattle.imagemodel.proofs.BySlots.{Spends, FlowAt, LinkAt}
use Rattle.imagemodel.proofs.RequestLeaves.{Walked}

module _ {l : Link} {t : ℕ} (v : LinkAt l t) {i : ℕ} (knows : i < flow_count l.plan) where
  open l use {plan as P}
  open P use {slots as F, frames as W}
  open v.current use {accepted as ok}

  -- the frame of slot t
  abbrev k : ℕ
  k = frame_of P t

  old : FlowAt P t l.owners i (flow l i)
  old = v.flows i knows

  pub walked-spends : {j c : ℕ} → Walked l i j c → Spends P k l.owners i j c
  walked-spends {j} {c} w = record {
    frame = b;
    low = omega (arith, sp.low);
    high = omega (arith, sp.low, from-head, w.not_past);
    injection_is = w.frame_is ∙ ap (λ a. (a + w.steps) % W) sp.injection_is ∙ mod-add-mod sp.frame W w.steps;
    spent = go w.steps refl;
    none_after = λ a after high. sp.none_after a (omega arith) high;
  }
    where
      sp : Spends P k l.owners i (flow l i).injection (flow l i).remainder
      sp = old.spends

      b : ℕ
      b = sp.frame + w.steps

      from-head : ahead W (head (window l)) (flow l i).injection ≡ sp.frame - k
      from-head =
          ap (λ h. ahead W h (flow l i).injection) (head_is v.current) ∙ ap (ahead W (k % W)) sp.injection_is
          ∙ ahead-mod (some-frame ok) sp.low sp.high

      go : (n : ℕ) → w.steps ≡ n → bookings_in P l.owners i (b % W) + c ≡ share l i
      go zero e =
          let same : b ≡ sp.frame = omega arith in
          omega (arith, ap (λ a. bookings_in P l.owners i (a % W)) same, w.at_first e, sp.spent)
      go (suc n) e =
          let high : b < k + W = omega (arith, sp.low, from-head, w.not_past) in
          omega (arith, sp.none_after b (omega arith) high, w.later_on (omega arith))

  pub moved_at : (j c : ℕ) → Walked l i j c → LinkAt (with_flow l i (moved_to (flow l i) j c)) t
  moved_at j c w = record {
    current = v.current;
    turn_below = v.turn_below;
    owners_long = v.owners_long;
    flows_long = length-table (flow_count P) _;
    owners_known = v.owners_known;
    flows = each_flow l (FlowAt P t l.owners) i (moved_to (flow l i) j c) own (λ q h d. v.flows q h);
  }
    where
      own : FlowAt P t l.owners i (moved_to (flow l i) j c)
      own = record { spends = walked-spends w; within_share = old.within_share; holds = old.holds; number_below = old.number_below }
