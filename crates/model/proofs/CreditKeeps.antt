-- A credit that is taken keeps the invariant. Assumes nothing.
use Prim.Native.Nat.{ℕ, ◌-◌, ◌%◌, ◌<◌}
use mathlib.Core.Path.{◌≡◌, sym, ap, ◌∙◌, subst}
use mathlib.Core.List.{◌∷◌}
use mathlib.Core.Bool.{true, false}
use lib.Dec.{ltb}
use borrow.Author.Tests.{ltb-true, leb-false, not-false}
use Rattle.model.specs.Refusals.{first_of}
use Rattle.model.specs.Plan.{positions, flow_count}
use Rattle.model.specs.Window.{passed, every_from}
use Rattle.model.specs.Link.{Link, Flow, window, flow, holding, with_held, held_from}
use Rattle.model.specs.Credit.{credit_tests, lowered}
use Rattle.model.specs.History.{slot_after, frame_of}
use Rattle.model.specs.Holding.{InWindow}
use Rattle.model.proofs.Tests.{line-passed}
use Rattle.model.proofs.Slots.{slot_at, slot_at-in-window, slot_at-position, slot_after-is}
use Rattle.model.proofs.Window.{passed_is}
use Rattle.model.proofs.LinkUpdates.{each_flow}
use Rattle.model.proofs.Marks.{mark}
use Rattle.model.proofs.Invariant.{Ledger, with_credit, Injects, Holds, Invariant}
use Rattle.model.proofs.HeldFrom.{NeverEmpty, never-empty-from, lower-own, lower-other}

-- a credit that passes its tests
pub record CreditPasses (l : Link) (i p : ℕ) : Type 0 where
  pub known : i < flow_count l.plan
  pub position : p < positions l.plan
  pub later : passed (window l) p ≡ false
  pub holds : every_from (window l) p (λ q. ltb 0 (holding l i q)) ≡ true

pub credit-passes : (l : Link) (i p : ℕ) → first_of (credit_tests l i p) ≡ 0 → CreditPasses l i p
credit-passes l i p e =
    let l8 = line-passed _ 7 _ e in
    let l13 = line-passed _ 12 _ l8.1 in
    let l14 = line-passed _ 13 _ l13.1 in
    let l15 = line-passed _ 14 _ l14.1 in
    record {
      known = ltb-true i (flow_count l.plan) (not-false _ l8.0);
      position = ltb-true p (positions l.plan) (not-false _ l13.0);
      later = l14.0;
      holds = not-false _ l15.0;
    }

module _ {l : Link} {L : Ledger} (v : Invariant l L) {i p : ℕ} (c : CreditPasses l i p) where
  open l use {plan as P}
  open L use {now as t}
  open v.current use {accepted as ok}

  -- the slot that the credit is dated
  abbrev s : ℕ
  s = slot_at ok t p

  w : InWindow P t s
  w = slot_at-in-window ok t p

  at_p : s % positions P ≡ p
  at_p = slot_at-position ok t p c.position

  to_come : t < s
  to_come = leb-false s t (sym (passed_is v.current s w) ∙ ap (passed (window l)) at_p ∙ c.later)

  dated : slot_after P t p ≡ s
  dated = ap (slot_after P t) (sym at_p) ∙ slot_after-is ok t s w to_come

  never-empty : NeverEmpty v c.known w
  never-empty = never-empty-from v c.known w (subst (λ q. every_from (window l) q (λ r. ltb 0 (holding l i r)) ≡ true) (sym at_p) c.holds)

  keeps : Invariant (lowered l i (s % positions P)) (with_credit L (mark i s))
  unfolding lowered
  keeps = record {
    current = v.current;
    marks = record {
      origin_le = v.marks.origin_le;
      grants_in = v.marks.grants_in;
      raises_in = v.marks.raises_in;
      credits_in = (w.high, v.marks.credits_in);
    };
    bookings = v.bookings;
    owned = v.owned;
    injects = each_flow l (Injects P (frame_of P t) L.grants) i x (v.injects i c.known) (λ j h d. v.injects j h);
    holds =
        each_flow l (Holds P t L.raises (mark i s ∷ L.credits)) i x (lower-own v c.known w never-empty)
        (λ j h d r. lower-other (v.holds j h r) (mark i s) (λ e. d (sym e)));
  }
    where
      x : Flow
      x = with_held (flow l i) (held_from l i (s % positions P) (λ y. y - 1))

  pub credit-keeps : Invariant (lowered l i p) (with_credit L (mark i (slot_after P t p)))
  credit-keeps = rw dated (subst (λ q. Invariant (lowered l i q) (with_credit L (mark i s))) at_p keeps)
