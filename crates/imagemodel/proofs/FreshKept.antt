-- A fresh link meets the conditions. Assumes nothing.
use Prim.Native.Nat.{ℕ, ◌+◌, ◌*◌, ◌%◌, ◌<◌}
use mathlib.Core.Path.{◌≡◌, sym, ap, subst}
use mathlib.Core.Option.{Option, none}
use native.Mathlib.Nat.{zero-mod, zero-div, mod-lt}
use native.Mathlib.Omega.{arith}
use lib.ListN.{get_or, replicate, get_or-replicate, length-replicate}
use Rattle.model.specs.Tables.{bit}
use Rattle.model.specs.Plan.{Plan, positions, flow_count, Accepted}
use Rattle.model.specs.Fresh.{fresh_flow, fresh}
use Rattle.model.proofs.Tables.{length-table}
use Rattle.model.proofs.Slots.{some-frame, some-position}
use Rattle.model.proofs.LinkUpdates.{flow-with_flows}
use Rattle.imagemodel.specs.Consistent.{known, booked_by, bookings_in, Keepable}
use Rattle.imagemodel.proofs.Bookings.{place-below, bookings-none}
use Rattle.imagemodel.proofs.BySlots.{FlowAt, kept_at}

module _ {P : Plan} (ok : Accepted P) where
  abbrev T : ℕ
  T = positions P

  unbooked : (p : ℕ) → p < T → get_or (replicate {A = Option ℕ} T none) p none ≡ none
  unbooked p below = get_or-replicate T p none none below

  no-bookings : (i j : ℕ) → j < P.frames → bookings_in P (replicate T none) i j ≡ 0
  no-bookings i j below =
      bookings-none P (replicate T none) i j (λ x lt. ap (λ o. bit (booked_by i o)) (unbooked (j * P.slots + x) (place-below P j x below lt)))

  nothing-held : (p : ℕ) → p < T → get_or (replicate {A = ℕ} T 0) p 0 ≡ 0
  nothing-held p below = get_or-replicate T p 0 0 below

  flow-kept : (i : ℕ) → FlowAt P 0 (replicate T none) i (fresh_flow P i)
  flow-kept i = record {
    spends = record {
      frame = 0;
      low = omega (arith, zero-div P.slots);
      high = omega (arith, some-frame ok);
      injection_is = sym (zero-mod P.frames);
      spent = omega (arith, no-bookings i (0 % P.frames) (mod-lt 0 (some-frame ok)));
      none_after = λ a after high. no-bookings i (a % P.frames) (mod-lt a (some-frame ok));
    };
    within_share = λ j below. omega (arith, no-bookings i j below);
    holds = record {
      long = length-replicate T 0;
      within_cells = λ p below. omega (arith, nothing-held p below);
      grows = λ s w after. omega (arith, nothing-held (s % T) (mod-lt s (some-position ok)));
    };
    number_below = omega arith;
  }

  pub fresh_kept : Keepable (fresh P)
  unfolding fresh
  fresh_kept = kept_at {t = 0} (record {
    current = record { accepted = ok; current_is = sym (zero-mod T) };
    turn_below = ok.some_flow;
    owners_long = length-replicate T none;
    flows_long = length-table (flow_count P) (fresh_flow P);
    owners_known = λ p below. ap (known (flow_count P)) (unbooked p below);
    flows = λ i h. subst (FlowAt P 0 (replicate T none) i) (sym (flow-with_flows (fresh P) (fresh_flow P) i h)) (flow-kept i);
  })
