-- The conditions on a link, where slots and frames are numbered on without end: slot t is current, and later means a greater number. Assumes nothing.
use Prim.Native.Nat.{ℕ, ◌+◌, ◌-◌, ◌%◌, ◌≤◌, ◌<◌}
use mathlib.Core.Path.{◌≡◌, refl, sym, ap, ap₂, ◌∙◌, subst}
use mathlib.Core.List.{List}
use mathlib.Core.Option.{Option}
use mathlib.Core.Bool.{Bool, true, false}
use native.Mathlib.Nat.{mod-lt, mod-add-mod, add-mod_right, mod-eq_of_lt}
use native.Mathlib.Omega.{arith}
use lib.ListN.{length, get_or}
use lib.Dec.{leb, ltb}
use borrow.Author.Tests.{ltb-true, ltb-false, leb-true, leb-false, lt-ltb, le-ltb}
use Rattle.model.specs.Tables.{ahead}
use Rattle.model.specs.Plan.{Plan, positions, flow_count, entry, Accepted}
use Rattle.model.specs.Window.{Window, head, rank, later, from_on}
use Rattle.model.specs.Link.{Link, Flow, owner, flow}
use Rattle.model.specs.History.{frame_of}
use Rattle.model.specs.Holding.{InWindow}
use Rattle.model.proofs.Round.{first_with, first_with-low, first_with-high, first_with-mod, ahead-mod}
use Rattle.model.proofs.Slots.{some-frame, some-position, frame-begins, current-in-window, slot_at, slot_at-in-window, slot_at-position}
use Rattle.model.proofs.Window.{Current, head_is, from_on-is}
use Rattle.imagemodel.specs.Consistent.{known, bookings_in, frame_after, before, window_at, grows_to, ConsistentFlow, Keepable}
use Rattle.imagemodel.proofs.Bookings.{booking}

-- ---- a flow

-- Where frame k is the current slot's, flow i's injection frame is j and its remainder c.
pub record Spends (P : Plan) (k : ℕ) (owners : List (Option ℕ)) (i j c : ℕ) : Type 0 where
  pub frame : ℕ  -- IF, numbered on without end
  pub low : k ≤ frame
  pub high : frame < k + P.frames
  pub injection_is : j ≡ frame % P.frames
  pub spent : bookings_in P owners i (frame % P.frames) + c ≡ (entry P i).share
  pub none_after : (a : ℕ) → frame < a → a < k + P.frames → bookings_in P owners i (a % P.frames) ≡ 0

-- what flow i holds grows from slot to slot, after slot t, only at its bookings
abbrev pub GrowsAt : Plan → List (Option ℕ) → (i : ℕ) → List ℕ → (s : ℕ) → Type 0
GrowsAt P owners i held s = get_or held (s % positions P) 0 ≤ get_or held ((s - 1) % positions P) 0 + booking owners i (s % positions P)

pub record HoldsWell (P : Plan) (t : ℕ) (owners : List (Option ℕ)) (i : ℕ) (held : List ℕ) : Type 0 where
  pub long : length held ≡ positions P
  pub within_cells : (p : ℕ) → p < positions P → get_or held p 0 ≤ (entry P i).cells
  pub grows : (s : ℕ) → InWindow P t s → t < s → GrowsAt P owners i held s

pub record FlowAt (P : Plan) (t : ℕ) (owners : List (Option ℕ)) (i : ℕ) (x : Flow) : Type 0 where
  pub spends : Spends P (frame_of P t) owners i x.injection x.remainder
  pub within_share : (j : ℕ) → j < P.frames → bookings_in P owners i j ≤ (entry P i).share
  pub holds : HoldsWell P t owners i x.held
  pub number_below : x.number < 1024

-- ---- a link

pub record LinkAt (l : Link) (t : ℕ) : Type 0 where
  pub current : Current l.plan t l.current
  pub turn_below : l.turn < flow_count l.plan
  pub owners_long : length l.owners ≡ positions l.plan
  pub flows_long : length l.flows ≡ flow_count l.plan
  pub owners_known : (p : ℕ) → p < positions l.plan → known (flow_count l.plan) (owner l p) ≡ true
  pub flows : (i : ℕ) → i < flow_count l.plan → FlowAt l.plan t l.owners i (flow l i)

-- ---- later positions and frames, and the position before

-- a slot after slot t has one before it in the window
pub slot-before : {P : Plan} → Accepted P → {t s : ℕ} → InWindow P t s → t < s → InWindow P t (s - 1)
slot-before ok {t} w after = record { low = omega (arith, frame-begins ok t); high = omega (arith, w.high) }

module _ {P : Plan} {t c : ℕ} (now : Current P t c) where
  open now use {accepted as ok}

  abbrev w : Window
  w = window_at P c

  abbrev T : ℕ
  T = positions P

  abbrev W : ℕ
  W = P.frames

  pub later-is : (s : ℕ) → InWindow P t s → later w (s % T) c ≡ ltb t s
  unfolding from_on
  later-is s w-s =
      go (leb s t) refl (ap (from_on w (s % T)) now.current_is ∙ from_on-is now s t w-s (current-in-window ok t))
    where
      go : (b : Bool) → leb s t ≡ b → from_on w (s % T) c ≡ leb s t → later w (s % T) c ≡ ltb t s
      go true e f =
          le-ltb (rank w c) (rank w (s % T)) (leb-true (rank w (s % T)) (rank w c) (f ∙ e)) ∙ sym (le-ltb t s (leb-true s t e))
      go false e f =
          lt-ltb (rank w c) (rank w (s % T)) (leb-false (rank w (s % T)) (rank w c) (f ∙ e)) ∙ sym (lt-ltb t s (leb-false s t e))

  pub before-is : (s : ℕ) → 0 < s → before w (s % T) ≡ (s - 1) % T
  before-is s pos =
      let some = some-position ok in
      let a : s % T + T - 1 ≡ s % T + (T - 1) = omega arith in
      let b : s + (T - 1) ≡ s - 1 + T = omega arith in
      ap (◌% T) a ∙ mod-add-mod s T (T - 1) ∙ ap (◌% T) b ∙ add-mod_right (s - 1) T

  pub after_is : (a b : ℕ) → frame_of P t ≤ a → a < frame_of P t + W → frame_of P t ≤ b → b < frame_of P t + W
      → frame_after w (a % W) (b % W) ≡ ltb b a
  unfolding frame_after
  after_is a b low-a high-a low-b high-b = rw (from-head a low-a high-a, from-head b low-b high-b) (go (ltb b a) refl)
    where
      from-head : (a : ℕ) → frame_of P t ≤ a → a < frame_of P t + W → ahead W (head w) (a % W) ≡ a - frame_of P t
      from-head a low high = ap (λ h. ahead W h (a % W)) (head_is now) ∙ ahead-mod (some-frame ok) low high

      go : (r : Bool) → ltb b a ≡ r → ltb (b - frame_of P t) (a - frame_of P t) ≡ r
      go true e = lt-ltb (b - frame_of P t) (a - frame_of P t) (omega (arith, ltb-true b a e))
      go false e = le-ltb (b - frame_of P t) (a - frame_of P t) (omega (arith, ltb-false b a e))

  -- ---- the conditions on a flow, by positions and by slots

  module _ (owners : List (Option ℕ)) (i : ℕ) (x : Flow) where
    pub by_slots : ConsistentFlow P c owners i x → length x.held ≡ T → FlowAt P t owners i x
    by_slots v long = record {
      spends = record {
        frame = a;
        low = first_with-low (some-frame ok) k IF;
        high = first_with-high (some-frame ok) k IF;
        injection_is = sym at-IF;
        spent = ap (λ j. bookings_in P owners i j + x.remainder) at-IF ∙ v.spent;
        none_after = λ b after high. v.none_after (b % W) (mod-lt b (some-frame ok)) (is-after b after high);
      };
      within_share = v.within_share;
      holds = record { long = long; within_cells = v.within_cells; grows = grows };
      number_below = v.number_below;
    }
      where
        k : ℕ
        k = frame_of P t

        IF : ℕ
        IF = x.injection

        a : ℕ
        a = first_with W k IF

        at-IF : a % W ≡ IF
        at-IF = first_with-mod (some-frame ok) k IF v.injection_below

        is-after : (b : ℕ) → a < b → b < k + W → frame_after w (b % W) IF ≡ true
        is-after b after high =
            ap (frame_after w (b % W)) (sym at-IF)
            ∙ after_is b a (omega (arith, first_with-low (some-frame ok) k IF)) high (first_with-low (some-frame ok) k IF) (first_with-high (some-frame ok) k IF)
            ∙ lt-ltb a b after

        grows : (s : ℕ) → InWindow P t s → t < s → GrowsAt P owners i x.held s
        grows s w-s after =
            let g = v.grows (s % T) (mod-lt s (some-position ok)) (later-is s w-s ∙ lt-ltb t s after) in
            rw (before-is s (omega arith)) at g

    pub by-positions : FlowAt P t owners i x → ConsistentFlow P c owners i x
    by-positions v = record {
      injection_below = subst (◌< W) (sym sp.injection_is) (mod-lt sp.frame (some-frame ok));
      within_share = v.within_share;
      none_after = none_after;
      spent = ap (λ j. bookings_in P owners i j + x.remainder) sp.injection_is ∙ sp.spent;
      within_cells = v.holds.within_cells;
      grows = grows;
      number_below = v.number_below;
    }
      where
        k : ℕ
        k = frame_of P t

        sp : Spends P k owners i x.injection x.remainder
        sp = v.spends

        none_after : (j : ℕ) → j < W → frame_after w j x.injection ≡ true → bookings_in P owners i j ≡ 0
        none_after j below e =
            let b = first_with W k j in
            let at_j = first_with-mod (some-frame ok) k j below in
            let low = first_with-low (some-frame ok) k j in
            let high = first_with-high (some-frame ok) k j in
            let after = sym (after_is b sp.frame low high sp.low sp.high) ∙ ap₂ (frame_after w) at_j (sym sp.injection_is) ∙ e in
            ap (bookings_in P owners i) (sym at_j) ∙ sp.none_after b (ltb-true sp.frame b after) high

        grows : (p : ℕ) → p < T → later w p c ≡ true → get_or x.held p 0 ≤ grows_to P c owners i x p
        grows p below e =
            let s = slot_at ok t p in
            let w-s = slot_at-in-window ok t p in
            let at_p : s % T ≡ p = slot_at-position ok t p below in
            let after : t < s = ltb-true t s (sym (later-is s w-s) ∙ ap (λ q. later w q c) at_p ∙ e) in
            subst (λ q. get_or x.held q 0 ≤ grows_to P c owners i x q) at_p (rw (before-is s (omega arith)) (v.holds.grows s w-s after))

-- ---- the conditions on a link

pub at-current : {l : Link} → Keepable l → LinkAt l l.current
at-current {l} v = record {
  current = now;
  turn_below = v.consistent.turn_below;
  owners_long = v.whole.owners_long;
  flows_long = v.whole.flows_long;
  owners_known = v.consistent.owners_known;
  flows = λ i h. by_slots now l.owners i (flow l i) (v.consistent.each_flow i h) (v.whole.held_long i h);
}
  where
    now : Current l.plan l.current l.current
    now = record { accepted = v.accepted; current_is = sym (mod-eq_of_lt v.consistent.current_below) }

pub kept_at : {l : Link} {t : ℕ} → LinkAt l t → Keepable l
kept_at {l} {t} v = record {
  accepted = v.current.accepted;
  whole = record { owners_long = v.owners_long; flows_long = v.flows_long; held_long = λ i h. (v.flows i h).holds.long };
  consistent = record {
    current_below = subst (◌< positions l.plan) (sym v.current.current_is) (mod-lt t (some-position v.current.accepted));
    turn_below = v.turn_below;
    owners_known = v.owners_known;
    each_flow = λ i h. by-positions v.current l.owners i (flow l i) (v.flows i h);
  };
}
