-- The reference scheduler takes the credits of cells that their flow holds, and no others. Assumes nothing.
use Prim.Native.Nat.{ℕ, zero, suc, ◌%◌, ◌<◌}
use mathlib.Core.Path.{◌≡◌, refl, sym, ap, ◌∙◌, subst}
use mathlib.Core.List.{List}
use mathlib.Core.Bool.{true, false}
use native.Mathlib.Omega.{arith}
use lib.Dec.{ltb}
use borrow.Author.Tests.{leb-false, lt-ltb}
use Rattle.model.specs.Refusals.{first_of}
use Rattle.model.specs.Plan.{Plan, positions, flow_count, plan_of, Accepted}
use Rattle.model.specs.Calls.{Call, CreditAnswer, History, credited, accepted, refused}
use Rattle.model.specs.Window.{passed, every_from}
use Rattle.model.specs.Link.{Link, window, holding}
use Rattle.model.specs.Credit.{credit_tests, lowered, credit_after, credit}
use Rattle.model.specs.History.{ticks, slot_after, has_come, up_to}
use Rattle.model.specs.Holding.{InWindow}
use Rattle.model.specs.Claim.{Each}
use Rattle.model.specs.Scheduler.{Played, reference, step, run}
use Rattle.arrival.specs.AcceptedCredits.{GivesBackFrom, IsAccepted, CreditAcceptedAt, CreditAccepted}
use Rattle.model.proofs.Plan as plan
use Rattle.model.proofs.Slots.{slot_at, slot_at-in-window, slot_at-position, slot_after-is}
use Rattle.model.proofs.Window.{passed_is, every_from-intro}
use Rattle.model.proofs.Departures.{come-at}
use Rattle.model.proofs.HeldFrom.{never-empty-from}
use Rattle.model.proofs.CreditKeeps.{CreditPasses, credit-passes}
use Rattle.model.proofs.HistoryCounts.{raises-are}
use Rattle.model.proofs.AfterHistory.{After}
use Rattle.model.proofs.AfterCalls.{Known}
use Rattle.model.proofs.EventsOfRuns.{Happened, by-calls}

-- ---- a credit that passes its tests is taken

pub credit-accepted : (l : Link) (i p : ℕ) → CreditPasses l i p → credit l i p ≡ record { link = lowered l i p; answer = accepted tt }
unfolding credit credit_after first_of
credit-accepted l i p c =
    rw (lt-ltb i (flow_count l.plan) c.known, lt-ltb p (positions l.plan) c.position, c.later, c.holds) refl

-- and one that is taken passed them
pub credit-was-accepted : (l : Link) (i p : ℕ) → (credit l i p).answer ≡ accepted tt → CreditPasses l i p
unfolding credit credit_after
credit-was-accepted l i p a = go (first_of (credit_tests l i p)) refl a
  where
    go : (r : ℕ) → first_of (credit_tests l i p) ≡ r → (credit_after r l i p).answer ≡ accepted tt → CreditPasses l i p
    go zero e is = credit-passes l i p e
    go (suc r) e is = let z : ◌≡◌ {A = ℕ} 0 1 = cc in absurd (omega arith)

-- ---- a credit, on a link that stands after a history

module _ {l : Link} {h : History} (g : After l.plan l h) (i p : ℕ) where
  open l use {plan as P}
  open g use {invariant as v}
  open v.current use {accepted as ok}

  abbrev t : ℕ
  t = ticks h

  -- the slot of position p in the window
  abbrev s : ℕ
  s = slot_at ok t p

  w : InWindow P t s
  w = slot_at-in-window ok t p

  module _ (below : p < positions P) where
    at_p : s % positions P ≡ p
    at_p = slot_at-position ok t p below

    -- a position is passed where a tile with this departure has come
    passed-if-come : passed (window l) p ≡ has_come P t p
    passed-if-come = ap (passed (window l)) (sym at_p) ∙ passed_is v.current s w ∙ sym (come-at v.current s w) ∙ ap (has_come P t) at_p

    dated : t < s → slot_after P t p ≡ s
    dated later = ap (slot_after P t) (sym at_p) ∙ slot_after-is ok t s w later

  slot-later : (below : p < positions P) → has_come P t p ≡ false → t < s
  slot-later below yet = leb-false s t (sym (come-at v.current s w) ∙ ap (has_come P t) (at_p below) ∙ yet)

  passes-if-held : GivesBackFrom P i p h → CreditPasses l i p
  passes-if-held x = record {
    known = x.known;
    position = x.position;
    later = passed-if-come x.position ∙ x.later;
    holds =
        subst (λ q. every_from (window l) q (λ r. ltb 0 (holding l i r)) ≡ true) (at_p x.position)
        (every_from-intro v.current s (λ q. ltb 0 (holding l i q)) w λ r w-r le.
        lt-ltb 0 (holding l i (r % positions P)) (omega (
          arith,
          x.holds r (omega (arith, dated x.position (slot-later x.position x.later))),
          (v.holds i x.known r).at_slot w-r,
          raises-are P (up_to i r) h,
        )));
  }

  held-if-passes : CreditPasses l i p → GivesBackFrom P i p h
  held-if-passes c =
      let yet = sym (passed-if-come c.position) ∙ c.later in
      let on = subst (λ q. every_from (window l) q (λ r. ltb 0 (holding l i r)) ≡ true) (sym (at_p c.position)) c.holds in
      record {
        known = c.known;
        position = c.position;
        later = yet;
        holds = λ r le.
            omega (
              arith,
              never-empty-from v c.known w on r (omega (arith, dated c.position (slot-later c.position yet))),
              raises-are P (up_to i r) h,
            );
      }

  accepted-at : CreditAcceptedAt P (credited i p (credit l i p).answer) h
  accepted-at = (
    λ is. held-if-passes (credit-was-accepted l i p (answer-of (credit l i p).answer is)),
    λ x. subst IsAccepted (sym (ap (λ s. s.answer) (credit-accepted l i p (passes-if-held x)))) tt,
  )
    where
      answer-of : (a : CreditAnswer) → IsAccepted a → a ≡ accepted tt
      answer-of (accepted u) is = refl
      answer-of (refused r) is = absurd is

-- ---- a list of calls

one_more : (r : Played reference) (c : Call) → Known r.state.plan r → Each (CreditAcceptedAt r.state.plan) r.history
    → Each (CreditAcceptedAt r.state.plan) (step reference r c).history
one_more r (Call.request w) g x = (tt, x)
one_more r (Call.credit i p) g x = (accepted-at g i p, x)
one_more r Call.tick g x = (tt, x)
one_more r (Call.lend m) g x = (tt, x)
one_more r Call.reset g x = (tt, x)

-- on any plan that keeps the limits, and so on the plan of any bytes that are accepted
pub credits-accepted-on-plan : (P : Plan) → Accepted P → (calls : List Call) → Each (CreditAcceptedAt P) (run reference P calls).history
credits-accepted-on-plan P ok = by-calls ok (λ r. Each (CreditAcceptedAt P) r.history) more tt
  where
    more : (r : Played reference) (c : Call) → Known P r → Each (Happened P) r.history → Each (CreditAcceptedAt P) r.history
        → Each (CreditAcceptedAt P) (step reference r c).history
    more r c g happened =
        subst (λ Q. Known Q r → Each (CreditAcceptedAt Q) r.history → Each (CreditAcceptedAt Q) (step reference r c).history) g.plan_is (one_more r c) g

pub credits_accepted : CreditAccepted reference
credits_accepted bytes passes = credits-accepted-on-plan (plan_of bytes) (plan.accepted bytes passes)
