-- A frame change leaves a link that meets the conditions. Assumes nothing.
use Prim.Native.Nat.{ℕ, suc, ◌+◌, ◌-◌, ◌%◌, ◌≤◌, ◌<◌}
use mathlib.Core.Path.{◌≡◌, refl, sym, ap, ◌∙◌, subst}
use mathlib.Core.List.{List}
use mathlib.Core.Option.{Option, none}
use mathlib.Core.Bool.{Bool, true, false, cond}
use native.Mathlib.Nat.{mod-lt, mod-add-mod}
use native.Mathlib.Decide.{dec_lt, ℕ_discrete}
use native.Mathlib.Numerals.{add-one}
use native.Mathlib.Omega.{arith}
use lib.Dec.{eqb}
use lib.ListN.{get_or}
use borrow.Author.Tests.{eqb-true, eqb-false}
use Rattle.model.specs.Tables.{bit}
use Rattle.model.specs.Plan.{positions, flow_count, entry}
use Rattle.model.specs.Window.{head, next, in_head, last}
use Rattle.model.specs.Link.{Link, Flow, window, owner, flow, holding, share, with_current, with_mark, moved_to}
use Rattle.model.specs.Tick.{left_head, emptied, carried_on, recycled, next_position}
use Rattle.model.specs.History.{frame_of}
use Rattle.model.specs.Holding.{frame_start, InWindow}
use Rattle.model.proofs.Round.{mod-unique, first_with, first_with-low, first_with-high, first_with-mod}
use Rattle.model.proofs.Tables.{length-table}
use Rattle.model.proofs.Slots.{some-frame, some-position, frame-begins}
use Rattle.model.proofs.Window.{Current, head_is, last_is}
use Rattle.model.proofs.LinkUpdates.{flow-with_flows, carried_on-at}
use Rattle.model.proofs.TickKeeps.{left-number}
use Rattle.imagemodel.specs.Consistent.{booked_by, bookings_in}
use Rattle.imagemodel.proofs.Bookings.{booking}
use Rattle.imagemodel.proofs.OldHead.{owners_after, step, kept, added, owner-is, known-still, bookings-last, bookings-stay}
use Rattle.imagemodel.proofs.BySlots.{Spends, GrowsAt, HoldsWell, FlowAt, LinkAt, slot-before}

module _ {l : Link} {t : ℕ} (v : LinkAt l t) (change : suc t % l.plan.slots ≡ 0) where
  open l use {plan as P}
  open P use {slots as F, frames as W}
  open v.current use {accepted as ok}

  abbrev T : ℕ
  T = positions P

  -- the frame of slot t
  abbrev k : ℕ
  k = frame_of P t

  -- the end of the old window
  abbrev end : ℕ
  end = frame_start P t + T

  abbrev owners : List (Option ℕ)
  owners = owners_after l

  module _ (i : ℕ) (known : i < flow_count P) where
    f : FlowAt P t l.owners i (flow l i)
    f = v.flows i known

    share_kept : (j : ℕ) → j < W → bookings_in P owners i j ≤ share l i
    share_kept j below =
        let some = some-frame ok in
        let a = first_with W (suc k) j in
        subst (λ b. bookings_in P owners i b ≤ share l i) (first_with-mod some (suc k) j below)
        (go a (first_with-low some (suc k) j) (omega (arith, first_with-high some (suc k) j)) (ℕ_discrete a (k + W)))
      where
        go : (a : ℕ) → suc k ≤ a → a ≤ k + W → Dec (a ≡ k + W) → bookings_in P owners i (a % W) ≤ share l i
        go a low high (yes e) = omega (arith, bookings-last v change i a low high e)
        go a low high (no d) = omega (arith, bookings-stay v change i a low high d, f.within_share (a % W) (mod-lt a (some-frame ok)))

    -- ---- flows whose IF is over

    -- none after frame b, of the old window or the new
    none-later : (b a : ℕ) → f.spends.frame ≤ b → b < a → a < suc k + W → bookings_in P owners i (a % W) ≡ 0
    none-later b a from after high = go (ℕ_discrete a (k + W))
      where
        low : suc k ≤ a
        low = omega (arith, f.spends.low)

        go : Dec (a ≡ k + W) → bookings_in P owners i (a % W) ≡ 0
        go (yes e) = bookings-last v change i a low (omega arith) e
        go (no d) = bookings-stay v change i a low (omega arith) d ∙ f.spends.none_after a (omega arith) (omega arith)

    spends-on : Spends P (suc k) owners i (left_head l i).injection (left_head l i).remainder
    spends-on = go (eqb (flow l i).injection (head (window l))) refl
      where
        Leaves : Flow → Type 0
        Leaves x = Spends P (suc k) owners i x.injection x.remainder

        go : (b : Bool) → eqb (flow l i).injection (head (window l)) ≡ b
            → Leaves (cond b (moved_to (flow l i) (next (window l) (head (window l))) (share l i)) (flow l i))
        go true e =
            let some = some-frame ok in
            let two = ok.two_frames in
            let at_head = sym f.spends.injection_is ∙ eqb-true (flow l i).injection (head (window l)) e ∙ head_is v.current in
            let z : f.spends.frame ≡ k = mod-unique some {b = k} f.spends.low f.spends.high (omega arith) (omega arith) at_head in
            record {
              frame = suc k;
              low = omega arith;
              high = omega arith;
              injection_is = ap (λ x. (x + 1) % W) (head_is v.current) ∙ mod-add-mod k W 1 ∙ ap (◌% W) (add-one k);
              spent = omega (arith, none-later k (suc k) (omega arith) (omega arith) (omega arith));
              none_after = λ a after high. none-later (suc k) a (omega arith) after high;
            }
        go false e =
            let differ : f.spends.frame ≡ k → ⊥ =
            λ z. eqb-false (flow l i).injection (head (window l)) e (f.spends.injection_is ∙ ap (◌% W) z ∙ sym (head_is v.current)) in
            let low : suc k ≤ f.spends.frame = omega (arith, f.spends.low) in
            let high = f.spends.high in
            record {
              frame = f.spends.frame;
              low = low;
              high = omega arith;
              injection_is = f.spends.injection_is;
              spent = omega (arith, bookings-stay v change i f.spends.frame low (omega arith) (λ e. omega arith), f.spends.spent);
              none_after = λ a after below. none-later f.spends.frame a (omega arith) after below;
            }

    -- ---- what is held goes on

    module _ (x : Flow) where
      abbrev held : List ℕ
      held = (carried_on l i x).held

      held_is : (s : ℕ) → get_or held (s % T) 0 ≡ cond (in_head (window l) (s % T)) (holding l i (last (window l))) (holding l i (s % T))
      held_is s = carried_on-at l i x (s % T) (mod-lt s (some-position ok))

      held_kept : (s : ℕ) → InWindow P (suc t) s → s < end → get_or held (s % T) 0 ≡ holding l i (s % T)
      held_kept s w h = rw (kept v change s w h) at (held_is s)

      held-added : (s : ℕ) → InWindow P (suc t) s → end ≤ s → get_or held (s % T) 0 ≡ holding l i ((end - 1) % T)
      held-added s w h = (rw (added v change s w h) at (held_is s)) ∙ ap (holding l i) (last_is v.current)

      within : (p : ℕ) → p < T → get_or held p 0 ≤ (entry P i).cells
      within p below = rw (carried_on-at l i x p below) (go (in_head (window l) p))
        where
          go : (b : Bool) → cond b (holding l i (last (window l))) (holding l i p) ≤ (entry P i).cells
          go true = f.holds.within_cells (last (window l)) (mod-lt _ (some-position ok))
          go false = f.holds.within_cells p below

      grows : (s : ℕ) → InWindow P (suc t) s → suc t < s → Dec (s < end) → Dec (s ≡ end) → GrowsAt P owners i held s
      grows s w after (yes h) d =
          let before = slot-before ok w after in
          let was : InWindow P t s = record { low = omega (arith, frame-begins ok t); high = h } in
          let stays : booking owners i (s % T) ≡ booking l.owners i (s % T) =
          ap (λ o. bit (booked_by i o)) (owner-is v change (s % T) (mod-lt s (some-position ok)) ∙ ap (λ b. cond b none (owner l (s % T))) (kept v change s w h)) in
          omega (arith, held_kept s w h, held_kept (s - 1) before (omega arith), f.holds.grows s was (omega arith))
      grows s w after (no h) (yes e) =
          let before = slot-before ok w after in
          let same = ap (λ r. holding l i ((r - 1) % T)) e in
          omega (arith, held-added s w (omega arith), held_kept (s - 1) before (omega arith))
      grows s w after (no h) (no d) =
          let before = slot-before ok w after in
          omega (arith, held-added s w (omega arith), held-added (s - 1) before (omega arith))

      holds_on : HoldsWell P (suc t) owners i held
      holds_on = record { long = length-table T _; within_cells = within; grows = λ s w after. grows s w after (dec_lt s end) (ℕ_discrete s end) }

    flow-on : FlowAt P (suc t) owners i (carried_on l i (left_head l i))
    flow-on = record {
      spends = subst (λ a. Spends P a owners i (left_head l i).injection (left_head l i).remainder) (sym (step v change)) spends-on;
      within_share = share_kept;
      holds = holds_on (left_head l i);
      number_below = subst (◌< 1024) (sym (left-number l i)) f.number_below;
    }

  -- ---- the frame change

  pub frame-change-at : Current P (suc t) (next_position l) → LinkAt (with_mark (with_current (recycled l) (next_position l)) false) (suc t)
  unfolding recycled
  frame-change-at now = record {
    current = now;
    turn_below = v.turn_below;
    owners_long = length-table T (emptied l);
    flows_long = length-table (flow_count P) _;
    owners_known = known-still v change;
    flows = λ i h. subst (FlowAt P (suc t) owners i) (sym (flow-with_flows l _ i h)) (flow-on i h);
  }
