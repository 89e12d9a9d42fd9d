-- A booking leaves a link that meets the conditions. Assumes nothing.
use Prim.Native.Nat.{ℕ, suc, ◌+◌, ◌-◌, ◌*◌, ◌/◌, ◌%◌, ◌≤◌, ◌<◌}
use mathlib.Core.Path.{◌≡◌, refl, sym, ap, ◌∙◌, subst}
use mathlib.Core.List.{List}
use mathlib.Core.Option.{Option, some, none}
use mathlib.Core.Bool.{Bool, true, false, cond}
use native.Mathlib.Nat.{mod-lt, div-add-mod'}
use native.Mathlib.Decide.{ℕ_discrete}
use native.Mathlib.Omega.{arith}
use lib.Arith.{digits_div}
use lib.Dec.{ltb, eqb}
use lib.ListN.{get_or}
use borrow.Author.Tests.{leb-false, lt-ltb, eq-eqb, ne_eqb}
use Rattle.model.specs.Tables.{table, bit}
use Rattle.model.specs.Plan.{positions, flow_count}
use Rattle.model.specs.Window.{passed, every_from}
use Rattle.model.specs.Link.{Link, Flow, window, owner, flow, holding, share, cells, with_owners, held_from}
use Rattle.model.specs.Request as request
use Rattle.model.specs.History.{frame_of}
use Rattle.model.specs.Holding.{InWindow}
use Rattle.model.proofs.Round.{mod-unique}
use Rattle.model.proofs.Tables.{get_d-table, length-table}
use Rattle.model.proofs.Slots.{some-frame, some-position, slot_at, slot_at-in-window, slot_at-position}
use Rattle.model.proofs.Window.{passed_is}
use Rattle.model.proofs.LinkUpdates.{each_flow}
use Rattle.model.proofs.SlotOwners.{unbooked-none}
use Rattle.imagemodel.specs.Consistent.{known, booked_by, bookings_in}
use Rattle.imagemodel.proofs.Bookings.{booking, place-below, bookings-same, bookings-one-more}
use Rattle.imagemodel.proofs.BySlots.{Spends, HoldsWell, FlowAt, LinkAt}
use Rattle.imagemodel.proofs.Holdings.{raised-well}
use Rattle.imagemodel.proofs.RequestLeaves.{Walked, Bookable}
use Rattle.imagemodel.proofs.WalkKept.{walked-spends}

module _ {l : Link} {t : ℕ} (v : LinkAt l t) {i : ℕ} (knows : i < flow_count l.plan) (j c p : ℕ) (w : Walked l i j (suc c)) (free : Bookable l i j p) where
  open l use {plan as P}
  open P use {slots as F, frames as W}
  open v.current use {accepted as ok}

  abbrev T : ℕ
  T = positions P

  old : FlowAt P t l.owners i (flow l i)
  old = v.flows i knows

  sp : Spends P (frame_of P t) l.owners i j (suc c)
  sp = walked-spends v knows w

  -- its slot
  abbrev s : ℕ
  s = slot_at ok t p

  w-s : InWindow P t s
  w-s = slot_at-in-window ok t p

  at_p : s % T ≡ p
  at_p = slot_at-position ok t p free.position

  to_come : t < s
  to_come = leb-false s t (sym (passed_is v.current s w-s) ∙ ap (passed (window l)) at_p ∙ free.not_passed)

  -- ---- the owners

  abbrev owner_now : ℕ → Option ℕ
  owner_now q = cond (eqb q p) (some i) (owner l q)

  abbrev owners : List (Option ℕ)
  owners = table T owner_now

  owner-is : (q : ℕ) → q < T → get_or owners q none ≡ owner_now q
  owner-is q below = get_d-table T owner_now q none below

  booking-at : (n : ℕ) → booking owners n p ≡ bit (eqb i n)
  booking-at n = ap (λ o. bit (booked_by n o)) (owner-is p free.position ∙ ap (λ b. cond b (some i) (owner l p)) (eq-eqb p p refl))

  booking-was : (n : ℕ) → booking l.owners n p ≡ 0
  booking-was n = ap (λ o. bit (booked_by n o)) (unbooked-none (owner l p) free.not_booked)

  booking-else : (n q : ℕ) → q < T → (q ≡ p → ⊥) → booking owners n q ≡ booking l.owners n q
  booking-else n q below d = ap (λ o. bit (booked_by n o)) (owner-is q below ∙ ap (λ b. cond b (some i) (owner l q)) (ne_eqb q p d))

  -- another flow's booking
  booking-other : (n q : ℕ) → (n ≡ i → ⊥) → q < T → booking owners n q ≡ booking l.owners n q
  booking-other n q d below = go (ℕ_discrete q p)
    where
      go : Dec (q ≡ p) → booking owners n q ≡ booking l.owners n q
      go (yes e) =
          subst (λ r. booking owners n r ≡ booking l.owners n r) (sym e)
          (booking-at n ∙ ap bit (ne_eqb i n (λ z. d (sym z))) ∙ sym (booking-was n))
      go (no f) = booking-else n q below f

  known-still : (q : ℕ) → q < T → known (flow_count P) (get_or owners q none) ≡ true
  known-still q below = ap (known (flow_count P)) (owner-is q below) ∙ go (eqb q p)
    where
      go : (b : Bool) → known (flow_count P) (cond b (some i) (owner l q)) ≡ true
      go true = lt-ltb i (flow_count P) knows
      go false = v.owners_known q below

  -- ---- the flow's bookings in each frame

  j-below : j < W
  j-below = subst (◌< W) (sym sp.injection_is) (mod-lt sp.frame (some-frame ok))

  bookings-here : bookings_in P owners i j ≡ suc (bookings_in P l.owners i j)
  bookings-here =
      bookings-one-more P l.owners owners i j y (mod-lt p ok.some_slot)
      (subst (λ q. booking owners i q ≡ suc (booking l.owners i q)) (sym at_y) (booking-at i ∙ ap bit (eq-eqb i i refl) ∙ ap suc (sym (booking-was i))))
      (λ x lt d. booking-else i (j * F + x) (place-below P j x j-below lt) (λ e. d (omega (arith, at_y))))
    where
      -- p is slot y of frame j
      y : ℕ
      y = p % F

      at_y : j * F + y ≡ p
      at_y = ap (λ a. a * F + y) (sym free.in_frame) ∙ div-add-mod' p F

  bookings-elsewhere : (a : ℕ) → a < W → (a ≡ j → ⊥) → bookings_in P owners i a ≡ bookings_in P l.owners i a
  bookings-elsewhere a below d =
      bookings-same P l.owners owners i a λ x lt.
      booking-else i (a * F + x) (place-below P a x below lt) (λ e. d (sym (digits_div a lt) ∙ ap (◌/ F) e ∙ free.in_frame))

  spends-one : Spends P (frame_of P t) owners i j c
  spends-one = record {
    frame = sp.frame;
    low = sp.low;
    high = sp.high;
    injection_is = sp.injection_is;
    spent = omega (arith, ap (bookings_in P owners i) sp.injection_is, ap (bookings_in P l.owners i) sp.injection_is, bookings-here, sp.spent);
    none_after = λ a after high. bookings-elsewhere (a % W) (mod-lt a (some-frame ok)) (apart a after high) ∙ sp.none_after a after high;
  }
    where
      apart : (a : ℕ) → sp.frame < a → a < frame_of P t + W → a % W ≡ j → ⊥
      apart a after high e =
          let low = sp.low in
          let same = mod-unique (some-frame ok) {b = frame_of P t} {x = a} {y = sp.frame} (omega arith) high low sp.high (e ∙ sp.injection_is) in
          omega arith

  share_kept : (a : ℕ) → a < W → bookings_in P owners i a ≤ share l i
  share_kept a below = go (ℕ_discrete a j)
    where
      go : Dec (a ≡ j) → bookings_in P owners i a ≤ share l i
      go (yes e) =
          subst (λ b. bookings_in P owners i b ≤ share l i) (sym e)
          (omega (arith, bookings-here, ap (bookings_in P l.owners i) sp.injection_is, sp.spent))
      go (no d) = omega (arith, bookings-elsewhere a below d, old.within_share a below)

  -- ---- what the flow holds

  holds : HoldsWell P t owners i (held_from l i p suc)
  holds =
      subst (λ q. HoldsWell P t owners i (held_from l i q suc)) at_p
      (raised-well v knows w-s owners (subst (λ q. every_from (window l) q (λ r. ltb (holding l i r) (cells l i)) ≡ true) (sym at_p) free.room)
      still gets flat)
    where
      still : (r : ℕ) → InWindow P t r → t < r → booking l.owners i (r % T) ≤ booking owners i (r % T)
      still r w-r after = go (ℕ_discrete (r % T) p)
        where
          go : Dec (r % T ≡ p) → booking l.owners i (r % T) ≤ booking owners i (r % T)
          go (yes e) = omega (arith, ap (booking l.owners i) e, booking-was i)
          go (no d) = omega (arith, booking-else i (r % T) (mod-lt r (some-position ok)) d)

      gets : t < s → booking owners i (s % T) ≡ 1
      gets after = ap (booking owners i) at_p ∙ booking-at i ∙ ap bit (eq-eqb i i refl)

      flat : t < s → holding l i (s % T) ≤ holding l i ((s - 1) % T)
      flat after = omega (arith, old.holds.grows s w-s after, ap (booking l.owners i) at_p, booking-was i)

  -- ---- the other flows

  others : (n : ℕ) → n < flow_count P → (n ≡ i → ⊥) → FlowAt P t owners n (flow l n)
  others n h d = record {
    spends = record {
      frame = x.spends.frame;
      low = x.spends.low;
      high = x.spends.high;
      injection_is = x.spends.injection_is;
      spent = omega (arith, same (x.spends.frame % W) (mod-lt x.spends.frame (some-frame ok)), x.spends.spent);
      none_after = λ a after high. same (a % W) (mod-lt a (some-frame ok)) ∙ x.spends.none_after a after high;
    };
    within_share = λ a below. omega (arith, same a below, x.within_share a below);
    holds = record {
      long = x.holds.long;
      within_cells = x.holds.within_cells;
      grows = λ r w-r after. omega (arith, x.holds.grows r w-r after, booking-other n (r % T) d (mod-lt r (some-position ok)));
    };
    number_below = x.number_below;
  }
    where
      x : FlowAt P t l.owners n (flow l n)
      x = v.flows n h

      same : (a : ℕ) → a < W → bookings_in P owners n a ≡ bookings_in P l.owners n a
      same a below = bookings-same P l.owners owners n a λ y lt. booking-other n (a * F + y) d (place-below P a y below lt)

  -- ---- the link

  pub booked-at : LinkAt (request.booked l i j c p) t
  unfolding request.booked
  booked-at = record {
    current = v.current;
    turn_below = v.turn_below;
    owners_long = length-table T owner_now;
    flows_long = length-table (flow_count P) _;
    owners_known = known-still;
    flows = each_flow (with_owners l owner_now) (FlowAt P t owners) i x own others;
  }
    where
      x : Flow
      x = request.booked_flow l i j c p

      own : FlowAt P t owners i x
      own = record { spends = spends-one; within_share = share_kept; holds = holds; number_below = mod-lt ((flow l i).number + 1) (omega arith) }
