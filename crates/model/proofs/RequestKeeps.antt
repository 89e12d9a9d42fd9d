-- A request with departure d that passes its word's tests keeps the invariant, and what the least count needs. Assumes nothing.
use Prim.Native.Nat.{ℕ, ◌+◌, ◌-◌, ◌*◌, ◌%◌, ◌≤◌, ◌<◌}
use mathlib.Core.Path.{◌≡◌, sym, ap, ◌∙◌, subst, subst₂}
use mathlib.Core.List.{◌∷◌}
use mathlib.Core.Bool.{true, false}
use native.Mathlib.Nat.{mod-lt}
use native.Mathlib.Omega.{arith}
use lib.Arith.{digits_div}
use Rattle.model.specs.Plan.{positions, flow_count, entry}
use Rattle.model.specs.Window.{newest}
use Rattle.model.specs.Link.{Link, window}
use Rattle.model.specs.Request.{found, nowhere, valid, can_leave, valid_for, booked, refused_at_newest}
use Rattle.model.specs.History.{slot_after, frame_of, has_come}
use Rattle.model.specs.Holding.{InWindow}
use Rattle.model.proofs.Round.{mod-unique}
use Rattle.model.proofs.Tables.{Hit}
use Rattle.model.proofs.Slots.{some-frame, some-position, frame-slot-in-window, window-below, position-of, slot_after-is}
use Rattle.model.proofs.Window.{newest-is}
use Rattle.model.proofs.Departures.{valid-for-parts, leaves_after}
use Rattle.model.proofs.Marks.{mark, marks_in, in-frame-skip}
use Rattle.model.proofs.Invariant.{Ledger, with_grant, Invariant}
use Rattle.model.proofs.BookingKeeps.{Open, valid-open, moved_keeps, booked-keeps}
use Rattle.model.proofs.LeastCount.{Full, Least, least-granted}
use Rattle.model.proofs.RequestSearch.{Persists, Searched, newest_frame, full-behind}

-- ---- the slot of a position that is found in frame a

module _ {l : Link} {L : Ledger} (v : Invariant l L) {i : ℕ} (known : i < flow_count l.plan) (d a p : ℕ) (low : frame_of l.plan L.now ≤ a)
    (high : a < frame_of l.plan L.now + l.plan.frames) (hit : Hit l.plan.slots (a % l.plan.frames * l.plan.slots) p (valid_for l i d)) where
  open l use {plan as P}
  open P use {slots as F, frames as W}
  open L use {now as t}
  open v.current use {accepted as ok}

  abbrev pub found_slot : ℕ
  found_slot = a * F + (p - a % W * F)

  place-below : p - a % W * F < F
  place-below = omega (arith, hit.low, hit.high)

  pub in_frame : frame_of P found_slot ≡ a
  in_frame = digits_div a place-below

  pub at_position : found_slot % positions P ≡ p
  at_position = position-of ok a (p - a % W * F) place-below ∙ (let z : a % W * F + (p - a % W * F) ≡ p = omega (arith, hit.low) in z)

  pub in_window : InWindow P t found_slot
  in_window = frame-slot-in-window ok t a (p - a % W * F) low high place-below

  passes : (valid l i (found_slot % positions P) ≡ true) × (can_leave (window l) d (found_slot % positions P) ≡ true)
  passes = valid-for-parts l i d (found_slot % positions P) (ap (valid_for l i d) at_position ∙ hit.passes)

  pub free : Open v known found_slot
  free = valid-open v known found_slot in_window passes.0

  pub slot_is : slot_after P t p ≡ found_slot
  slot_is = ap (slot_after P t) (sym at_position) ∙ slot_after-is ok t found_slot in_window free.to_come

  pub found-in-frame : frame_of P (slot_after P t p) ≡ a
  found-in-frame = ap (frame_of P) slot_is ∙ in_frame

module _ {l : Link} {L : Ledger} (v : Invariant l L) {i : ℕ} (known : i < flow_count l.plan) (d : ℕ) (R : ℕ → ℕ) where
  open l use {plan as P}
  open P use {slots as F, frames as W}
  open L use {now as t}
  open v.current use {accepted as ok}

  abbrev T : ℕ
  T = positions P

  -- ---- a grant: frame j, remainder c, position p

  pub record AfterGrant (j c p : ℕ) : Type 0 where
    pub position : p < T
    pub soon : slot_after P t p < t + T
    pub after_departure : d < T → has_come P t d ≡ false → slot_after P t d < slot_after P t p
    pub keeps : Invariant (booked l i j c p) (with_grant L (mark i (slot_after P t p)))
    pub least : Persists v known d R → Least P (frame_of P t) L.origin (mark i (slot_after P t p) ∷ L.grants) R i j

  pub after-grant : (j c p : ℕ) → Searched v known d R (found j c p) → AfterGrant j c p
  after-grant j c p r = record {
    position = subst (◌< T) at_p (mod-lt s (some-position ok));
    soon = rw slot (window-below ok t s w);
    after_departure = λ below yet. rw slot (leaves_after v.current d below yet s w leaves);
    keeps =
        rw slot (subst₂ (λ b q. Invariant (booked l i b c q) (with_grant L (mark i s))) (sym r.frame_is) at_p
        (booked-keeps v known a s c w in-a r.reached.spends open-slot r.reached.low high));
    least = λ p. rw slot (least-granted (at-frame-a p) (mark i s) kept);
  }
    where
      a : ℕ
      a = r.frame

      high : a < frame_of P t + W
      high = omega (arith, r.frame_le, some-frame ok)

      s : ℕ
      s = found_slot v known d a p r.reached.low high r.hit

      in-a : frame_of P s ≡ a
      in-a = in_frame v known d a p r.reached.low high r.hit

      at_p : s % T ≡ p
      at_p = at_position v known d a p r.reached.low high r.hit

      w : InWindow P t s
      w = in_window v known d a p r.reached.low high r.hit

      leaves : can_leave (window l) d (s % T) ≡ true
      leaves = (passes v known d a p r.reached.low high r.hit).1

      open-slot : Open v known s
      open-slot = free v known d a p r.reached.low high r.hit

      slot : slot_after P t p ≡ s
      slot = slot_is v known d a p r.reached.low high r.hit

      -- before the booking, but with frame a as the injection frame
      at-frame-a : Persists v known d R → Least P (frame_of P t) L.origin L.grants R i j
      at-frame-a p = record {
        before_injection = λ b low' high' e.
            let z : a ≡ b = mod-unique (some-frame ok) r.reached.low high low' high' (sym r.frame_is ∙ e) in
            subst (Full P L.origin L.grants i) z (r.reached.full p);
        after_a_change = p.least.after_a_change;
        after_a_refusal = p.least.after_a_refusal;
      }

      -- a full frame takes no grant
      kept : (n : ℕ) → Full P L.origin L.grants i n → Full P L.origin (mark i s ∷ L.grants) i n
      kept n full f since below =
          in-frame-skip P i f (mark i s) L.grants differs ∙ full f since below
        where
          differs : frame_of P s ≡ f → ⊥
          differs e =
              let z : marks_in P i a L.grants ≡ (entry P i).share = ap (λ q. marks_in P i q L.grants) (sym in-a ∙ e) ∙ full f since below in
              omega (arith, r.reached.spends.spent)

  -- ---- a refusal in the newest frame, with remainder c

  pub record AfterRefusal (c : ℕ) : Type 0 where
    pub keeps : Invariant (refused_at_newest l i c) L
    pub least : Persists v known d R → (S : ℕ → ℕ) → Least P (frame_of P t) L.origin L.grants S i (newest (window l))

  pub after-refusal : (c : ℕ) → Searched v known d R (nowhere c) → AfterRefusal c
  unfolding refused_at_newest
  after-refusal c r = record {
    keeps = rw (newest-is v.current) (moved_keeps v known newest-frame c r.reached.low high r.reached.spends);
    least = λ p S. record {
      before_injection = λ b low high e f since below. full p f since (omega arith);
      after_a_change = λ since f since' below. full p f since' (omega arith);
      after_a_refusal = λ re. full p;
    };
  }
    where
      newest-frame : ℕ
      newest-frame = newest_frame v known d R

      high : newest-frame < frame_of P t + W
      high = omega (arith, some-frame ok)

      full : Persists v known d R → Full P L.origin L.grants i (frame_of P t + W)
      full p f since below = full-behind v known d R newest-frame c high r.reached r.fails p f since (omega arith)
