-- A reset leaves a link that meets the conditions. Assumes nothing.
use Prim.Native.Nat.{ℕ, zero, suc, ◌+◌, ◌*◌, ◌%◌, ◌<◌, ◌≤◌}
use mathlib.Core.Path.{◌≡◌, refl, sym, ap, subst}
use mathlib.Core.List.{List}
use mathlib.Core.Option.{Option, none}
use mathlib.Core.Bool.{Bool, true}
use native.Mathlib.Nat.{mod-lt}
use native.Mathlib.Omega.{arith}
use lib.ListN.{get_or}
use lib.Dec.{eqb}
use borrow.Author.Tests.{eqb-true, not-false}
use Rattle.model.specs.Tables.{bit}
use Rattle.model.specs.Refusals.{first_of}
use Rattle.model.specs.Plan.{positions, flow_count}
use Rattle.model.specs.Window.{every_from}
use Rattle.model.specs.Link.{Link, window, holding}
use Rattle.model.specs.History.{frame_of}
use Rattle.model.specs.Holding.{InWindow}
use Rattle.model.specs.Reset.{none_held, reset_tests, from_head, reset_link, reset_after, reset}
use Rattle.model.proofs.Tests.{line-passed}
use Rattle.model.proofs.Tables.{length-table, every-at}
use Rattle.model.proofs.Slots.{some-frame, current-in-window}
use Rattle.model.proofs.Window.{head_is, every_from-at}
use Rattle.model.proofs.LinkUpdates.{owner-with_owners, flow-with_flows}
use Rattle.model.proofs.ResetTests.{quiet-parts}
use Rattle.imagemodel.specs.Consistent.{known, booked_by, bookings_in, Keepable}
use Rattle.imagemodel.proofs.Bookings.{place-below, bookings-none}
use Rattle.imagemodel.proofs.BySlots.{FlowAt, LinkAt, at-current, kept_at}

module _ {l : Link} {t : ℕ} (v : LinkAt l t) (nothing-held : none_held l ≡ true) where
  open l use {plan as P}
  open v.current use {accepted as ok}

  abbrev T : ℕ
  T = positions P

  abbrev owners : List (Option ℕ)
  owners = (reset_link l).owners

  unbooked : (p : ℕ) → p < T → get_or owners p none ≡ none
  unfolding reset_link
  unbooked p below = owner-with_owners l (λ q. none) p below

  no-bookings : (i j : ℕ) → j < P.frames → bookings_in P owners i j ≡ 0
  no-bookings i j below =
      bookings-none P owners i j (λ x lt. ap (λ o. bit (booked_by i o)) (unbooked (j * P.slots + x) (place-below P j x below lt)))

  -- nothing is held from the current slot on
  empty-from : (i : ℕ) → i < flow_count P → (s : ℕ) → InWindow P t s → t ≤ s → holding l i (s % T) ≡ 0
  unfolding none_held
  empty-from i h s w low =
      let test : ℕ → Bool = λ q. eqb (holding l i q) 0 in
      let here = every-at (flow_count P) (λ i. every_from (window l) l.current (λ q. eqb (holding l i q) 0)) i nothing-held h in
      let from : every_from (window l) (t % T) test ≡ true = subst (λ p. every_from (window l) p test ≡ true) v.current.current_is here in
      eqb-true (holding l i (s % T)) 0 (every_from-at v.current t test (current-in-window ok t) from s w low)

  flow-reset : (i : ℕ) → i < flow_count P → FlowAt P t owners i (from_head l i)
  flow-reset i h = record {
    spends = record {
      frame = frame_of P t;
      low = omega arith;
      high = omega (arith, some-frame ok);
      injection_is = head_is v.current;
      spent = omega (arith, no-bookings i (frame_of P t % P.frames) (mod-lt (frame_of P t) (some-frame ok)));
      none_after = λ a after high. no-bookings i (a % P.frames) (mod-lt a (some-frame ok));
    };
    within_share = λ j below. omega (arith, no-bookings i j below);
    holds = record {
      long = (v.flows i h).holds.long;
      within_cells = (v.flows i h).holds.within_cells;
      grows = λ s w after. omega (arith, empty-from i h s w (omega arith));
    };
    number_below = (v.flows i h).number_below;
  }

  reset-at : LinkAt (reset_link l) t
  unfolding reset_link
  reset-at = record {
    current = v.current;
    turn_below = ok.some_flow;
    owners_long = length-table T _;
    flows_long = length-table (flow_count P) (from_head l);
    owners_known = λ p below. ap (known (flow_count P)) (unbooked p below);
    flows = λ i h. subst (FlowAt P t owners i) (sym (flow-with_flows l (from_head l) i h)) (flow-reset i h);
  }

pub reset-kept : {l : Link} → Keepable l → Keepable (reset l).link
unfolding reset reset_after
reset-kept {l} v = go (first_of (reset_tests l)) refl
  where
    go : (r : ℕ) → first_of (reset_tests l) ≡ r → Keepable (reset_after r l).link
    go zero e = kept_at (reset-at (at-current v) (quiet-parts l (not-false _ (line-passed _ 22 _ e).0)).none-held)
    go (suc r) e = v
