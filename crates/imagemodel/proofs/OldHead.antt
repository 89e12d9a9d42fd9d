-- A frame change empties the old head: its positions in the new window, the owners, and the bookings in each frame. Assumes nothing.
use Prim.Native.Nat.{ℕ, suc, ◌+◌, ◌*◌, ◌/◌, ◌%◌, ◌≤◌, ◌<◌}
use mathlib.Core.Path.{◌≡◌, refl, sym, ap, ◌∙◌, subst}
use mathlib.Core.List.{List}
use mathlib.Core.Option.{Option, none}
use mathlib.Core.Bool.{Bool, true, false, cond}
use native.Mathlib.Nat.{mod-lt, add-mod_right}
use native.Mathlib.Decide.{ℕ_discrete}
use native.Mathlib.Omega.{arith}
use lib.Arith.{digits_div}
use lib.Dec.{eqb}
use lib.ListN.{get_or}
use borrow.Author.Tests.{eq-eqb, ne_eqb}
use Rattle.model.specs.Tables.{table, bit}
use Rattle.model.specs.Plan.{positions, flow_count}
use Rattle.model.specs.Window.{head, in_head}
use Rattle.model.specs.Link.{Link, window, owner}
use Rattle.model.specs.Tick.{emptied}
use Rattle.model.specs.History.{frame_of}
use Rattle.model.specs.Holding.{frame_start, InWindow}
use Rattle.model.proofs.Round.{mod-unique}
use Rattle.model.proofs.Tables.{get_d-table}
use Rattle.model.proofs.Slots.{some-frame, some-position, frame-low, frame-high, frame_changes, frame-of-position, position-of}
use Rattle.model.proofs.Window.{head_is}
use Rattle.imagemodel.specs.Consistent.{known, booked_by, bookings_in}
use Rattle.imagemodel.proofs.Bookings.{booking, bookings-same, bookings-none}
use Rattle.imagemodel.proofs.BySlots.{LinkAt}

-- RULES 8.2: the owners after a frame change
abbrev pub owners_after : Link → List (Option ℕ)
owners_after l = table (positions l.plan) (emptied l)

module _ {l : Link} {t : ℕ} (v : LinkAt l t) (change : suc t % l.plan.slots ≡ 0) where
  open l use {plan as P}
  open P use {slots as F, frames as W}
  open v.current use {accepted as ok}

  abbrev T : ℕ
  T = positions P

  -- the frame of slot t
  abbrev k : ℕ
  k = frame_of P t

  -- the end of the old window
  abbrev end : ℕ
  end = frame_start P t + T

  pub step : frame_of P (suc t) ≡ suc k
  step = frame_changes ok t change

  -- ---- the frames of the new window, k + 1 to k + W: the last of them has the old head's positions

  in-old-head : (a p : ℕ) → suc k ≤ a → a ≤ k + W → p / F ≡ a % W → in_head (window l) p ≡ eqb a (k + W)
  in-old-head a p low high at_p = go (ℕ_discrete a (k + W))
    where
      last-round : (k + W) % W ≡ head (window l)
      last-round = add-mod_right k W ∙ sym (head_is v.current)

      go : Dec (a ≡ k + W) → in_head (window l) p ≡ eqb a (k + W)
      go (yes e) = eq-eqb (p / F) (head (window l)) (at_p ∙ ap (◌% W) e ∙ last-round) ∙ sym (eq-eqb a (k + W) e)
      go (no d) = ne_eqb (p / F) (head (window l)) differ ∙ sym (ne_eqb a (k + W) d)
        where
          differ : p / F ≡ head (window l) → ⊥
          differ e =
              let some = some-frame ok in
              let same = sym at_p ∙ e ∙ sym last-round in
              d (mod-unique some {b = suc k} low (omega arith) (omega arith) (omega arith) same)

  -- the same of a slot
  pub kept : (s : ℕ) → InWindow P (suc t) s → s < end → in_head (window l) (s % T) ≡ false
  kept s w h =
      let low = frame-low ok (suc k) s (omega (arith, w.low, ap (◌* F) step)) in
      let high = frame-high ok (k + W) s (omega arith) in
      in-old-head (frame_of P s) (s % T) low (omega arith) (frame-of-position ok s) ∙ ne_eqb (frame_of P s) (k + W) (λ e. omega arith)

  pub added : (s : ℕ) → InWindow P (suc t) s → end ≤ s → in_head (window l) (s % T) ≡ true
  added s w h =
      let low = frame-low ok (k + W) s (omega arith) in
      let high = frame-high ok (suc (k + W)) s (omega (arith, w.high, ap (◌* F) step)) in
      let e : frame_of P s ≡ k + W = omega arith in
      in-old-head (frame_of P s) (s % T) (omega (arith, some-frame ok)) (omega arith) (frame-of-position ok s) ∙ eq-eqb (frame_of P s) (k + W) e

  -- ---- the owners

  abbrev owners : List (Option ℕ)
  owners = owners_after l

  pub owner-is : (p : ℕ) → p < T → get_or owners p none ≡ emptied l p
  owner-is p below = get_d-table T (emptied l) p none below

  pub known-still : (p : ℕ) → p < T → known (flow_count P) (get_or owners p none) ≡ true
  known-still p below = ap (known (flow_count P)) (owner-is p below) ∙ go (in_head (window l) p)
    where
      go : (b : Bool) → known (flow_count P) (cond b none (owner l p)) ≡ true
      go true = refl
      go false = v.owners_known p below

  -- flow i's bookings in frame a of the new window
  module _ (i a : ℕ) (low : suc k ≤ a) (high : a ≤ k + W) where
    place-below : (x : ℕ) → x < F → a % W * F + x < T
    place-below x lt = subst (◌< T) (position-of ok a x lt) (mod-lt (a * F + x) (some-position ok))

    booking-is : (x : ℕ) → x < F → booking owners i (a % W * F + x) ≡ bit (booked_by i (cond (eqb a (k + W)) none (owner l (a % W * F + x))))
    booking-is x lt =
        ap (λ o. bit (booked_by i o)) (owner-is (a % W * F + x) (place-below x lt)
        ∙ ap (λ b. cond b none (owner l (a % W * F + x))) (in-old-head a (a % W * F + x) low high (digits_div (a % W) lt)))

    pub bookings-last : a ≡ k + W → bookings_in P owners i (a % W) ≡ 0
    bookings-last e = bookings-none P owners i (a % W) λ x lt. rw (eq-eqb a (k + W) e) at (booking-is x lt)

    pub bookings-stay : (a ≡ k + W → ⊥) → bookings_in P owners i (a % W) ≡ bookings_in P l.owners i (a % W)
    bookings-stay d = bookings-same P l.owners owners i (a % W) λ x lt. rw (ne_eqb a (k + W) d) at (booking-is x lt)
