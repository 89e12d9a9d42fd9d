-- A lend that is answered keeps the invariant. Assumes nothing.
use Prim.Native.Nat.{ℕ, suc, ◌%◌, ◌^◌, ◌<◌}
use mathlib.Core.Path.{◌≡◌, sym, ap, ◌∙◌, subst}
use mathlib.Core.List.{◌∷◌}
use mathlib.Core.Bool.{true, false, not}
use native.Mathlib.Omega.{arith}
use lib.Dec.{ltb}
use borrow.Author.Tests.{leb-false, ne_eqb, not-false}
use Rattle.model.specs.Tables.{tally}
use Rattle.model.specs.Refusals.{first_of}
use Rattle.model.specs.Plan.{positions, flow_count}
use Rattle.model.specs.Window.{every_from}
use Rattle.model.specs.Link.{Link, Flow, window, owner, flow, holding, cells, with_held, held_from}
use Rattle.model.specs.Request.{unbooked}
use Rattle.model.specs.Lend.{can_take, lend_tests, lent_to}
use Rattle.model.specs.History.{frame_of, at_slot}
use Rattle.model.specs.Holding.{InWindow}
use Rattle.model.proofs.Tests.{line-passed, or-false}
use Rattle.model.proofs.Tallies.{tally-skip}
use Rattle.model.proofs.Slots.{current-in-window}
use Rattle.model.proofs.LinkUpdates.{each_flow}
use Rattle.model.proofs.Marks.{mark}
use Rattle.model.proofs.SlotOwners.{unowned, unbooked-none, once_more}
use Rattle.model.proofs.Invariant.{Ledger, with_loan, Injects, Holds, Room, Owned, Invariant}
use Rattle.model.proofs.HeldFrom.{raise-own, raise-other, room-from}

-- the mask has flows of the plan only, and the current slot is free
pub record LendPasses (l : Link) (mask : ℕ) : Type 0 where
  pub mask_below : mask < 2 ^ flow_count l.plan
  pub not_booked : unbooked (owner l l.current) ≡ true
  pub not_marked : l.marked ≡ false

pub lend-passes : (l : Link) (mask : ℕ) → first_of (lend_tests l mask) ≡ 0 → LendPasses l mask
lend-passes l mask e =
    let l8 = line-passed _ 7 _ e in
    let l17 = line-passed _ 16 _ l8.1 in
    let free = or-false (not (unbooked (owner l l.current))) l.marked l17.0 in
    record { mask_below = leb-false _ mask l8.0; not_booked = not-false _ free.0; not_marked = free.1 }

module _ {l : Link} {L : Ledger} (v : Invariant l L) {mask : ℕ} (free : LendPasses l mask) {i : ℕ} (known : i < flow_count l.plan) (can : can_take l i ≡ true) where
  open l use {plan as P}
  open L use {now as t}
  open v.current use {accepted as ok}

  abbrev T : ℕ
  T = positions P

  w : InWindow P t t
  w = current-in-window ok t

  at-current : t % T ≡ l.current
  at-current = sym v.current.current_is

  -- nobody owns the current slot
  unowned-now : tally (at_slot t) L.raises ≡ 0
  unowned-now =
      v.owned.unmarked free.not_marked
      ∙ (unowned t L.grants).0 (sym (v.bookings.owners_are t w) ∙ ap (owner l) at-current ∙ unbooked-none _ free.not_booked)

  room : Room P L.raises L.credits i t
  unfolding can_take
  room = room-from v known w (subst (λ p. every_from (window l) p (λ q. ltb (holding l i q) (cells l i)) ≡ true) (sym at-current) can)

  owned-more : Owned t L.grants (mark i t ∷ L.raises) true
  owned-more = record {
    one_owner = once_more (mark i t) L.raises unowned-now v.owned.one_owner;
    to_come = λ s lt. tally-skip (at_slot s) (mark i t) L.raises (ne_eqb t s (omega arith)) ∙ v.owned.to_come s lt;
    unmarked = λ e. cc;
  }

  pub lent-keeps : Invariant (lent_to l i) (with_loan L (mark i t))
  unfolding lent_to
  lent-keeps = record {
    current = v.current;
    marks = record {
      origin_le = v.marks.origin_le;
      grants_in = v.marks.grants_in;
      raises_in = (w.high, v.marks.raises_in);
      credits_in = v.marks.credits_in;
    };
    bookings = v.bookings;
    owned = owned-more;
    injects = each_flow l (Injects P (frame_of P t) L.grants) i x (v.injects i known) (λ j h d. v.injects j h);
    holds =
        each_flow l (Holds P t (mark i t ∷ L.raises) L.credits) i x
        (subst (λ p. Holds P t (mark i t ∷ L.raises) L.credits i (with_held (flow l i) (held_from l i p suc))) at-current (raise-own v known w room))
        (λ j h d r. raise-other (v.holds j h r) (mark i t) (λ e. d (sym e)));
  }
    where
      x : Flow
      x = with_held (flow l i) (held_from l i l.current suc)
