-- A frame change keeps the invariant. Assumes nothing.
use Prim.Native.Nat.{ℕ, suc, ◌+◌, ◌-◌, ◌*◌, ◌/◌, ◌%◌, ◌≤◌, ◌<◌}
use mathlib.Core.Path.{◌≡◌, refl, sym, ap, ◌∙◌, subst}
use mathlib.Core.Option.{none}
use mathlib.Core.Bool.{Bool, true, false, cond}
use native.Mathlib.Nat.{mod-lt, mod-add-mod, add-mod_right}
use native.Mathlib.Decide.{dec_lt}
use native.Mathlib.Numerals.{add-one}
use native.Mathlib.Omega.{arith}
use lib.Dec.{eqb}
use lib.ListN.{get_or}
use borrow.Author.Tests.{eqb-true, eqb-false, eq-eqb, ne_eqb}
use Rattle.model.specs.Tables.{tally}
use Rattle.model.specs.Plan.{positions, flow_count}
use Rattle.model.specs.Window.{head, next, frame_at, in_head}
use Rattle.model.specs.Link.{Link, Flow, window, owner, flow, holding, share, with_current, with_mark, moved_to}
use Rattle.model.specs.Tick.{left_head, carried_on, recycled, next_position}
use Rattle.model.specs.History.{frame_of, at_slot}
use Rattle.model.specs.Holding.{frame_start, InWindow}
use Rattle.model.proofs.Round.{mod-unique}
use Rattle.model.proofs.Tallies.{all_map, tally-none}
use Rattle.model.proofs.Slots.{some-frame, some-position, frame-low, frame-high, frame_changes, last-in-window, frame-of-position}
use Rattle.model.proofs.Window.{head_is, last_is}
use Rattle.model.proofs.LinkUpdates.{owner-with_owners, flow-with_flows, carried_on-at}
use Rattle.model.proofs.Marks.{marks_up_to, up-to-past}
use Rattle.model.proofs.SlotOwners.{owner_in, unowned}
use Rattle.model.proofs.Invariant.{Ledger, at_next_slot, Injects, HoldsAt, Holds, Invariant}
use Rattle.model.proofs.NextSlot.{next-current, marks_stay, owned-on}

module _ {l : Link} {L : Ledger} (v : Invariant l L) (change : suc L.now % l.plan.slots ≡ 0) where
  open l use {plan as P}
  open P use {slots as F, frames as W}
  open L use {now as t}
  open v.current use {accepted as ok}

  abbrev T : ℕ
  T = positions P

  -- ---- the old head's positions and the new window's slots

  -- q is a position of the old head
  abbrev in_old_head : ℕ → Bool
  in_old_head = in_head (window l)

  -- the end of the old window
  abbrev end : ℕ
  end = frame_start P t + T

  step : frame_of P (suc t) ≡ suc (frame_of P t)
  step = frame_changes ok t change

  pub next_start : frame_start P (suc t) ≡ frame_start P t + F
  next_start = let z : suc (frame_of P t) * F ≡ frame_of P t * F + F = omega arith in ap (◌* F) step ∙ z

  -- A slot of the new window that was in the old one has no position of the old head, and one that was not has one.
  pub kept : (s : ℕ) → InWindow P (suc t) s → s < end → in_old_head (s % T) ≡ false
  kept s w h = ne_eqb (frame_at (window l) (s % T)) (head (window l)) differ
    where
      differ : s % T / F ≡ head (window l) → ⊥
      differ e =
          let low = frame-low ok (suc (frame_of P t)) s (omega (arith, w.low, next_start)) in
          let high = frame-high ok (frame_of P t + W) s (omega arith) in
          let at_head = sym (frame-of-position ok s) ∙ e ∙ head_is v.current in
          let z : frame_of P s ≡ frame_of P t = mod-unique (some-frame ok) {b = frame_of P t} (omega arith) high (omega arith) (omega arith) at_head in
          omega arith

  pub added : (s : ℕ) → InWindow P (suc t) s → end ≤ s → in_old_head (s % T) ≡ true
  added s w h =
      let low = frame-low ok (frame_of P t + W) s (omega arith) in
      let high = frame-high ok (suc (frame_of P t + W)) s (omega (arith, w.high, next_start)) in
      let z : frame_of P s ≡ frame_of P t + W = omega arith in
      eq-eqb (frame_at (window l) (s % T)) (head (window l))
      (frame-of-position ok s ∙ ap (◌% W) z ∙ add-mod_right (frame_of P t) W ∙ sym (head_is v.current))

  pub before : (s : ℕ) → InWindow P (suc t) s → s < end → InWindow P t s
  before s w h = record { low = omega (arith, w.low, next_start); high = h }

  -- ---- owners of the frame that is over

  owner-is : (s : ℕ) → InWindow P (suc t) s → Dec (s < end) → cond (in_old_head (s % T)) none (owner l (s % T)) ≡ owner_in L.grants s
  owner-is s w (yes h) = rw (kept s w h) (v.bookings.owners_are s (before s w h))
  owner-is s w (no h) = rw (added s w (omega arith)) (sym ((unowned s L.grants).1 none_yet))
    where
      none_yet : tally (at_slot s) L.grants ≡ 0
      none_yet =
          tally-none (at_slot s) L.grants
          (all_map _ _ (λ m g. ne_eqb m.slot s (λ e. omega (arith, g.begun))) L.grants v.marks.grants_in)

  -- ---- what is held goes on

  held : (i : ℕ) → i < flow_count P → (x : Flow) → Holds P (suc t) L.raises L.credits i (carried_on l i x)
  held i known x s = record { at_slot = λ w. at_slot_lem w (dec_lt s end); covered = h.covered; within = h.within }
    where
      h : HoldsAt P t L.raises L.credits i (flow l i).held s
      h = v.holds i known s

      at_slot_lem : InWindow P (suc t) s → Dec (s < end)
          → marks_up_to i s L.raises ≡ marks_up_to i s L.credits + get_or (carried_on l i x).held (s % T) 0
      at_slot_lem w (yes below) = h.at_slot (before s w below) ∙ rw (carried_on-at l i x (s % T) (mod-lt s (some-position ok)), kept s w below)
      at_slot_lem w (no above) =
          let some = some-position ok in
          let last : get_or (carried_on l i x).held (s % T) 0 ≡ holding l i ((end - 1) % T) =
          rw (carried_on-at l i x (s % T) (mod-lt s some), added s w (omega arith), last_is v.current) in
          omega (
            arith,
            (v.holds i known (end - 1)).at_slot (last-in-window ok t),
            up-to-past i end s (end - 1) L.raises v.marks.raises_in (omega arith) (omega arith),
            up-to-past i end s (end - 1) L.credits v.marks.credits_in (omega arith) (omega arith),
          )

  -- ---- flows whose IF is over

  injects-on : (i : ℕ) → i < flow_count P → Injects P (frame_of P (suc t)) L.grants i (left_head l i)
  injects-on i known = go (eqb (flow l i).injection (head (window l))) refl
    where
      f : Injects P (frame_of P t) L.grants i (flow l i)
      f = v.injects i known

      go : (b : Bool) → eqb (flow l i).injection (head (window l)) ≡ b
          → Injects P (frame_of P (suc t)) L.grants i (cond b (moved_to (flow l i) (next (window l) (head (window l))) (share l i)) (flow l i))
      go true e =
          let some = some-frame ok in
          let at_head = sym f.injection_is ∙ eqb-true (flow l i).injection (head (window l)) e ∙ head_is v.current in
          let z : f.frame ≡ frame_of P t = mod-unique some {b = frame_of P t} f.low f.high (omega arith) (omega arith) at_head in
          record {
            frame = suc (frame_of P t);
            low = rw step (omega arith);
            high = rw step (omega arith);
            injection_is = ap (λ x. (x + 1) % W) (head_is v.current) ∙ mod-add-mod (frame_of P t) W 1 ∙ ap (◌% W) (add-one (frame_of P t));
            spends = record {
              spent = omega (arith, f.spends.none_after (suc (frame_of P t)) (omega arith));
              none_after = λ g h. f.spends.none_after g (omega arith);
            };
            in_frames = f.in_frames;
          }
      go false e =
          let differ : f.frame ≡ frame_of P t → ⊥ =
          λ z. eqb-false (flow l i).injection (head (window l)) e (f.injection_is ∙ ap (◌% W) z ∙ sym (head_is v.current)) in
          record {
            frame = f.frame;
            low = rw step (omega (arith, f.low));
            high = rw step (omega (arith, f.high));
            injection_is = f.injection_is;
            spends = f.spends;
            in_frames = f.in_frames;
          }

  -- ---- the frame change

  pub frame-change-keeps : Invariant (with_mark (with_current (recycled l) (next_position l)) false) (at_next_slot L)
  unfolding recycled
  frame-change-keeps = record {
    current = next-current v;
    marks = marks_stay v;
    bookings = record {
      owners_are = λ s w. owner-with_owners l _ (s % T) (mod-lt s (some-position ok)) ∙ owner-is s w (dec_lt s end);
      once = v.bookings.once;
    };
    owned = owned-on v;
    injects = λ i h. subst (Injects P (frame_of P (suc t)) L.grants i) (sym (flow-with_flows l _ i h)) (injects-on i h);
    holds = λ i h. subst (Holds P (suc t) L.raises L.credits i) (sym (flow-with_flows l _ i h)) (held i h (left_head l i));
  }
