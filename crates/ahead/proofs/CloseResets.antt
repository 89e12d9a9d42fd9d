-- Links that are close: a reset is granted on both or refused on both, if it comes when the slots have come up from which they hold the same. Assumes
-- nothing.
use Prim.Native.Nat.{ℕ, ◌%◌, ◌≤◌, ◌<◌}
use mathlib.Core.Path.{◌≡◌, refl, sym, ap, ◌∙◌, subst}
use mathlib.Core.Option.{none}
use mathlib.Core.Bool.{Bool, true, false, not, ◌||◌, cond}
use native.Mathlib.Omega.{arith}
use lib.Dec.{eqb}
use borrow.Author.Tests.{eqb-true, eq-eqb}
use Rattle.model.specs.Plan.{Plan, positions, flow_count}
use Rattle.model.specs.Calls.{ResetAnswer}
use Rattle.model.specs.Window.{Window, later, every_from}
use Rattle.model.specs.Link.{Link, Step, window, owner, holding}
use Rattle.model.specs.Request.{unbooked}
use Rattle.model.specs.Reset.{none_booked, none_held, quiet, from_head, reset_link, reset}
use Rattle.model.specs.Holding.{InWindow}
use Rattle.ahead.specs.AheadRuns.{ResetFrom}
use Rattle.model.proofs.Tables.{every-at, every-intro}
use Rattle.model.proofs.Slots.{current-in-window}
use Rattle.model.proofs.Window.{Current, every_from-at, every_from-intro}
use Rattle.model.proofs.LinkUpdates.{owner-with_owners, flow-with_flows}
use Rattle.model.proofs.Invariant.{Ledger, Invariant}
use Rattle.model.proofs.ResetTests.{granted, not_granted, reset-is, quiet-parts}
use Rattle.ahead.proofs.CloseLinks.{Close, Parts, with, by-base}

-- ---- two links with one CP

module _ (base : Link) (x y : Parts) {t : ℕ} (now : Current base.plan t base.current) where
  open base use {plan as P}
  open now use {accepted as ok}

  abbrev w : Window
  w = window base

  -- what is booked nowhere on the first is booked nowhere on the second, if their owners are the same
  booked-too : ((q : ℕ) → q < positions P → owner (with base x) q ≡ owner (with base y) q) → none_booked (with base x) ≡ true → none_booked (with base y) ≡ true
  unfolding none_booked
  booked-too same empty =
      every-intro (positions P) (λ q. not (later w q base.current) || unbooked (owner (with base y) q)) λ q below.
      ap (λ o. not (later w q base.current) || unbooked o) (sym (same q below))
      ∙ every-at (positions P) (λ q. not (later w q base.current) || unbooked (owner (with base x) q)) q empty below

  -- and what is held nowhere, if the second holds no more from the current slot on
  held-too :
      ((j s : ℕ) → j < flow_count P → InWindow P t s → t ≤ s → holding (with base y) j (s % positions P) ≤ holding (with base x) j (s % positions P))
      → none_held (with base x) ≡ true → none_held (with base y) ≡ true
  unfolding none_held
  held-too no_more empty =
      every-intro (flow_count P) (λ j. every_from w base.current (λ q. eqb (holding (with base y) j q) 0)) λ j known.
      let first = every-at (flow_count P) (λ j. every_from w base.current (λ q. eqb (holding (with base x) j q) 0)) j empty known in
      let at_slot = subst (λ p. every_from w p (λ q. eqb (holding (with base x) j q) 0) ≡ true) now.current_is first in
      subst (λ p. every_from w p (λ q. eqb (holding (with base y) j q) 0) ≡ true) (sym now.current_is)
      (every_from-intro now t (λ q. eqb (holding (with base y) j q) 0) (current-in-window ok t) λ r w-r le.
      let none_here = eqb-true (holding (with base x) j (r % positions P)) 0
      (every_from-at now t (λ q. eqb (holding (with base x) j q) 0) (current-in-window ok t) at_slot r w-r le) in
      eq-eqb (holding (with base y) j (r % positions P)) 0 (omega (arith, no_more j r known w-r le)))

-- ---- a reset

module _ (base : Link) (x y : Parts) {L : Ledger} (v : Invariant (with base x) L) {b : ℕ → ℕ} (c : Close base.plan L.now b (with base x) (with base y)) where
  open base use {plan as P}
  open L use {now as t}

  abbrev k : Link
  k = with base x

  abbrev l : Link
  l = with base y

  quiet-back : quiet l ≡ true → quiet k ≡ true
  quiet-back e =
      let q = quiet-parts l e in
      rw (
        booked-too base y x v.current (λ p below. sym (c.owners p below)) q.none_booked,
        held-too base y x v.current (λ j s known w-s le. (c.flows j known).no_less s w-s le) q.none-held,
      ) refl

  quiet-on : ((j : ℕ) → b j ≤ t) → quiet k ≡ true → quiet l ≡ true
  quiet-on come e =
      let q = quiet-parts k e in
      rw (
        booked-too base x y v.current c.owners q.none_booked,
        held-too base x y v.current (λ j s known w-s le. omega (arith, (c.flows j known).same_from s w-s le (omega (arith, come j)))) q.none-held,
      ) refl

  links-reset-close : Close P t b (reset_link k) (reset_link l)
  unfolding reset_link
  links-reset-close = record {
    plan_first = refl;
    plan_second = refl;
    current = refl;
    owners = λ q below. owner-with_owners k (λ p. none) q below ∙ sym (owner-with_owners l (λ p. none) q below);
    flows = λ j known. rw (flow-with_flows k (from_head k) j known, flow-with_flows l (from_head l) j known) (record {
      frame = refl;
      remainder = refl;
      number = (c.flows j known).number;
      no_less = (c.flows j known).no_less;
      same_from = (c.flows j known).same_from;
    });
    begun = c.begun;
  }

  abbrev Alike : Step ResetAnswer → Step ResetAnswer → Type 0
  Alike s s' = ResetFrom t b s.answer → (s.answer ≡ s'.answer) × Close P t b s.link s'.link

  reset-close : Alike (reset k) (reset l)
  reset-close = rw (reset-is k, reset-is l) (go (quiet k) refl (quiet l) refl)
    where
      go : (p : Bool) → quiet k ≡ p → (q : Bool) → quiet l ≡ q → Alike (cond p (granted k) (not_granted k)) (cond q (granted l) (not_granted l))
      go true e true f come = (refl, links-reset-close)
      go true e false f come = let on = quiet-on (λ j. omega (arith, come j)) e in let no : ◌≡◌ {A = ℕ} 0 1 = cc in absurd (omega arith)
      go false e true f come = let back = quiet-back f in let no : ◌≡◌ {A = ℕ} 0 1 = cc in absurd (omega arith)
      go false e false f come = (refl, c)

-- of any two links that are close
pub close-reset : {P : Plan} {k l : Link} {L : Ledger} {b : ℕ → ℕ} → Invariant k L → Close P L.now b k l → ResetFrom L.now b (reset k).answer
    → ((reset k).answer ≡ (reset l).answer) × Close P L.now b (reset k).link (reset l).link
close-reset {P} {k} {l} {L} {b} v c =
    by-base
    (λ Q m n. Invariant m L → Close Q L.now b m n → ResetFrom L.now b (reset m).answer
    → ((reset m).answer ≡ (reset n).answer) × Close Q L.now b (reset m).link (reset n).link)
    (λ base x y v c. reset-close base x y v c) P k l c.plan_first c.plan_second c.current v c
