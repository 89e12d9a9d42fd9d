-- The fresh link has the invariant, and what the least count needs. Assumes nothing.
use Prim.Native.Nat.{ℕ, ◌%◌, ◌<◌}
use mathlib.Core.Path.{◌≡◌, refl, sym, ap, ◌∙◌, subst}
use mathlib.Core.List.{[]}
use mathlib.Core.Option.{none}
use native.Mathlib.Nat.{zero-div, zero-mod, mod-lt, mod-eq_of_lt}
use native.Mathlib.Omega.{arith}
use lib.ListN.{get_or-replicate}
use Rattle.model.specs.Tables.{tally}
use Rattle.model.specs.Plan.{Plan, positions, flow_count, Accepted}
use Rattle.model.specs.Link.{flow}
use Rattle.model.specs.Fresh.{fresh_flow, fresh}
use Rattle.model.specs.History.{frame_of}
use Rattle.model.proofs.Slots.{some-frame, some-position}
use Rattle.model.proofs.LinkUpdates.{flow-with_flows}
use Rattle.model.proofs.SlotOwners.{owner_in}
use Rattle.model.proofs.Invariant.{Ledger, Injects, Holds, Invariant}
use Rattle.model.proofs.LeastCount.{Least}

abbrev pub nothing_yet : Ledger
nothing_yet = record { now = 0; origin = 0; grants = []; raises = []; credits = [] }

module _ {P : Plan} (ok : Accepted P) where
  pub fresh-flow : (i : ℕ) → i < flow_count P → flow (fresh P) i ≡ fresh_flow P i
  unfolding fresh
  fresh-flow i known = flow-with_flows (fresh P) (fresh_flow P) i known

  pub fresh_keeps : Invariant (fresh P) nothing_yet
  unfolding fresh owner_in tally
  fresh_keeps = record {
    current = record { accepted = ok; current_is = sym (zero-mod (positions P)) };
    marks = record { origin_le = omega arith; grants_in = tt; raises_in = tt; credits_in = tt };
    bookings = record {
      owners_are = λ s w. get_or-replicate (positions P) (s % positions P) none none (mod-lt s (some-position ok));
      once = λ s. omega arith;
    };
    owned = record { one_owner = λ s. omega arith; to_come = λ s lt. refl; unmarked = λ e. refl };
    injects = λ i known. subst (Injects P (frame_of P 0) [] i) (sym (fresh-flow i known)) (record {
      frame = 0;
      low = omega (arith, zero-div P.slots);
      high = omega (arith, zero-div P.slots, some-frame ok);
      injection_is = sym (zero-mod P.frames);
      spends = record { spent = omega arith; none_after = λ f h. refl };
      in_frames = λ f. omega arith;
    });
    holds = λ i known. subst (Holds P 0 [] [] i) (sym (fresh-flow i known)) (λ s. record {
      at_slot = λ w. omega (arith, get_or-replicate {A = ℕ} (positions P) (s % positions P) 0 0 (mod-lt s (some-position ok)));
      covered = omega arith;
      within = omega arith;
    });
  }

  pub fresh-least : (i : ℕ) → i < flow_count P → Least P (frame_of P 0) 0 [] (λ f. 0) i (flow (fresh P) i).injection
  fresh-least i known = record {
    before_injection = λ a low high e f since below.
        let in-first : a < P.frames = omega (arith, zero-div P.slots) in
        let z : a ≡ 0 = sym (mod-eq_of_lt in-first) ∙ sym e ∙ ap (λ x. x.injection) (fresh-flow i known) in
        absurd (omega arith);
    after_a_change = λ since. absurd (omega (arith, zero-div P.slots));
    after_a_refusal = λ re. absurd (omega arith);
  }
