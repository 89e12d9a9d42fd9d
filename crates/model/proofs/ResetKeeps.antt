-- A reset that is granted keeps the invariant: the counts of grants begin afresh, with nothing granted. Assumes nothing.
use Prim.Native.Nat.{ℕ, ◌+◌, ◌%◌, ◌<◌}
use mathlib.Core.Path.{◌≡◌, refl, sym, ap, ◌∙◌, subst}
use mathlib.Core.List.{[]}
use mathlib.Core.Option.{none}
use mathlib.Core.Bool.{true, not, ◌||◌}
use native.Mathlib.Nat.{mod-lt}
use native.Mathlib.Decide.{dec_lt}
use native.Mathlib.Omega.{arith}
use borrow.Author.Tests.{lt-ltb, ne_eqb, not-false}
use Rattle.model.specs.Tables.{tally}
use Rattle.model.specs.Plan.{positions}
use Rattle.model.specs.Window.{later}
use Rattle.model.specs.Link.{Link, window, owner}
use Rattle.model.specs.Request.{unbooked}
use Rattle.model.specs.Reset.{none_booked, from_head, reset_link}
use Rattle.model.specs.History.{frame_of, at_slot}
use Rattle.model.specs.Holding.{frame_start, InWindow}
use Rattle.model.proofs.Tests.{or-false}
use Rattle.model.proofs.Tables.{every-at}
use Rattle.model.proofs.Tallies.{all_map, tally-none}
use Rattle.model.proofs.Slots.{some-frame, some-position, current-in-window}
use Rattle.model.proofs.Window.{head_is, later-than-current}
use Rattle.model.proofs.LinkUpdates.{owner-with_owners, flow-with_flows}
use Rattle.model.proofs.SlotOwners.{owner_in, unowned, unbooked-none}
use Rattle.model.proofs.Invariant.{Ledger, at_reset, Injects, Holds, Owned, Invariant}

module _ {l : Link} {L : Ledger} (v : Invariant l L) (empty : none_booked l ≡ true) where
  open l use {plan as P}
  open L use {now as t}
  open v.current use {accepted as ok}

  abbrev T : ℕ
  T = positions P

  -- no slot to come was granted
  pub none-granted : (s : ℕ) → t < s → tally (at_slot s) L.grants ≡ 0
  unfolding none_booked
  none-granted s lt = go (dec_lt s (frame_start P t + T))
    where
      go : Dec (s < frame_start P t + T) → tally (at_slot s) L.grants ≡ 0
      go (yes below) =
          let w : InWindow P t s = record { low = omega (arith, (current-in-window ok t).low); high = below } in
          let later_on : later (window l) (s % T) l.current ≡ true = later-than-current v.current s w ∙ lt-ltb t s lt in
          let test = every-at T (λ q. not (later (window l) q l.current) || unbooked (owner l q)) (s % T) empty (mod-lt s (some-position ok)) in
          let free : unbooked (owner l (s % T)) ≡ true = rw later_on at test in
          (unowned s L.grants).0 (sym (v.bookings.owners_are s w) ∙ unbooked-none (owner l (s % T)) free)
      go (no past) =
          tally-none (at_slot s) L.grants
          (all_map _ _ (λ m g. ne_eqb m.slot s (λ e. omega (arith, g.begun))) L.grants v.marks.grants_in)

  -- A slot to come has no owner, and neither has the current one where it is not marked.
  owned-reset : Owned t [] L.raises (not (unbooked (owner l l.current)) || l.marked)
  unfolding tally
  owned-reset = record {
    one_owner = v.owned.one_owner;
    to_come = λ s lt. v.owned.to_come s lt ∙ none-granted s lt;
    unmarked = λ e.
        let parts = or-false (not (unbooked (owner l l.current))) l.marked e in
        v.owned.unmarked parts.1
        ∙ (unowned t L.grants).0
        (sym (v.bookings.owners_are t (current-in-window ok t)) ∙ ap (owner l) (sym v.current.current_is)
        ∙ unbooked-none (owner l l.current) (not-false _ parts.0));
  }

  injects-reset : (i : ℕ) → Injects P (frame_of P t) [] i (from_head l i)
  unfolding tally
  injects-reset i = record {
    frame = frame_of P t;
    low = omega arith;
    high = omega (arith, some-frame ok);
    injection_is = head_is v.current;
    spends = record { spent = omega arith; none_after = λ f lt. refl };
    in_frames = λ f. omega arith;
  }

  pub reset-keeps : Invariant (reset_link l) (at_reset P L)
  unfolding reset_link owner_in tally
  reset-keeps = record {
    current = v.current;
    marks = record { origin_le = omega arith; grants_in = tt; raises_in = v.marks.raises_in; credits_in = v.marks.credits_in };
    bookings = record {
      owners_are = λ s w. owner-with_owners l (λ q. none) (s % T) (mod-lt s (some-position ok));
      once = λ s. omega arith;
    };
    owned = owned-reset;
    injects = λ i known. subst (Injects P (frame_of P t) [] i) (sym (flow-with_flows l (from_head l) i known)) (injects-reset i);
    holds = λ i known. subst (Holds P t L.raises L.credits i) (sym (flow-with_flows l (from_head l) i known)) (v.holds i known);
  }
