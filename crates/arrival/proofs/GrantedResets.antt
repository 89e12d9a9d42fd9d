-- The reference scheduler grants a reset where nothing is booked to come and nothing is held, and nowhere else. Assumes nothing.
use Prim.Native.Nat.{ℕ, ◌%◌, ◌≤◌, ◌<◌}
use mathlib.Core.Path.{◌≡◌, refl, sym, ap, ◌∙◌, subst}
use mathlib.Core.Logic.{◌↔◌}
use mathlib.Core.List.{List}
use mathlib.Core.Bool.{Bool, true, false, not, ◌||◌, cond}
use native.Mathlib.Omega.{arith}
use lib.Dec.{eqb}
use borrow.Author.Tests.{eqb-true, eq-eqb, ltb-true}
use Rattle.model.specs.Tables.{tally}
use Rattle.model.specs.Plan.{Plan, Accepted, positions, flow_count, plan_of}
use Rattle.model.specs.Calls.{Call, Event, History}
use Rattle.model.specs.Window.{later, every_from}
use Rattle.model.specs.Link.{Link, window, owner, holding}
use Rattle.model.specs.Request.{unbooked}
use Rattle.model.specs.Reset.{none_booked, none_held, quiet, reset}
use Rattle.model.specs.History.{ticks, grant_at, grants, grants_since, at_slot, up_to}
use Rattle.model.specs.Holding.{InWindow}
use Rattle.model.specs.Claim.{Each}
use Rattle.model.specs.Scheduler.{Played, reference, step, run}
use Rattle.arrival.specs.AnsweredLends.{AtRest, IsReset, ResetGrantedAt, ResetGranted}
use Rattle.model.proofs.Plan as plan
use Rattle.model.proofs.Tables.{every-at, every-intro}
use Rattle.model.proofs.Slots.{slot_at, slot_at-in-window, slot_at-position, current-in-window}
use Rattle.model.proofs.Window.{every_from-at, every_from-intro, later-than-current}
use Rattle.model.proofs.SlotOwners.{unowned}
use Rattle.model.proofs.Invariant.{from-the-window}
use Rattle.model.proofs.ResetTests.{granted, not_granted, reset-is, quiet-parts}
use Rattle.model.proofs.ResetKeeps.{none-granted}
use Rattle.model.proofs.HistoryCounts.{split-at-reset, raises-are}
use Rattle.model.proofs.AfterHistory.{After}
use Rattle.model.proofs.AfterCalls.{Known}
use Rattle.model.proofs.EventsOfRuns.{Happened, by-calls}

module _ {l : Link} {h : History} (g : After l.plan l h) where
  open l use {plan as P}
  open g use {invariant as v}
  open v.current use {accepted as ok}

  abbrev t : ℕ
  t = ticks h

  abbrev T : ℕ
  T = positions P

  now-in : InWindow P t t
  now-in = current-in-window ok t

  -- ---- what is quiet is at rest

  rests-if-quiet : quiet l ≡ true → AtRest P h
  unfolding none_held
  rests-if-quiet e =
      let q = quiet-parts l e in
      record {
        none_booked = λ s lt. omega (arith, v.owned.to_come s lt, none-granted v q.none_booked s lt, raises-are P (at_slot s) h);
        none-held = λ i known s le.
            let at-current = every-at (flow_count P) (λ i. every_from (window l) l.current (λ q. eqb (holding l i q) 0)) i q.none-held known in
            let from_now = subst (λ p. every_from (window l) p (λ q. eqb (holding l i q) 0) ≡ true) v.current.current_is at-current in
            let nothing = from-the-window v i (λ b k. b ≤ k) t now-in (λ r w-r le.
            omega (
              arith,
              (v.holds i known r).at_slot w-r,
              eqb-true (holding l i (r % T)) 0 (every_from-at v.current t (λ q. eqb (holding l i q) 0) now-in from_now r w-r le),
            )) in
            omega (arith, nothing s le, raises-are P (up_to i s) h);
      }

  -- ---- and the other way round

  module _ (x : AtRest P h) where
    -- the owner of a slot of the window that is to come
    unowned-later : (s : ℕ) → InWindow P t s → t < s → unbooked (owner l (s % T)) ≡ true
    unfolding grants grants_since
    unowned-later s w-s lt =
        let none-since : tally (at_slot s) (grants_since P h) ≡ 0 = omega (arith, split-at-reset (grant_at P) (at_slot s) h, x.none_booked s lt) in
        ap unbooked (v.bookings.owners_are s w-s ∙ (unowned s (grants_since P h)).1 none-since)

    none-booked : none_booked l ≡ true
    unfolding none_booked
    none-booked = every-intro T (λ q. not (later (window l) q l.current) || unbooked (owner l q)) λ q below. go q below (later (window l) q l.current) refl
      where
        go : (q : ℕ) → q < T → (b : Bool) → later (window l) q l.current ≡ b → not b || unbooked (owner l q) ≡ true
        go q below false e = refl
        go q below true e =
            let s = slot_at ok t q in
            let w-s = slot_at-in-window ok t q in
            let at-q = slot_at-position ok t q below in
            let lt : t < s = ltb-true t s (sym (later-than-current v.current s w-s) ∙ ap (λ p. later (window l) p l.current) at-q ∙ e) in
            ap (λ p. unbooked (owner l p)) (sym at-q) ∙ unowned-later s w-s lt

    none-held : none_held l ≡ true
    unfolding none_held
    none-held =
        every-intro (flow_count P) (λ i. every_from (window l) l.current (λ q. eqb (holding l i q) 0)) λ i known.
        subst (λ p. every_from (window l) p (λ q. eqb (holding l i q) 0) ≡ true) (sym v.current.current_is)
        (every_from-intro v.current t (λ q. eqb (holding l i q) 0) now-in λ r w-r le.
        eq-eqb (holding l i (r % T)) 0 (omega (arith, (v.holds i known r).at_slot w-r, x.none-held i known r le, raises-are P (up_to i r) h)))

    quiet-if-rests : quiet l ≡ true
    quiet-if-rests = rw (none-booked, none-held) refl

  granted-at : ResetGrantedAt P (Event.reset (reset l).answer) h
  granted-at = rw (reset-is l) (go (quiet l) refl)
    where
      go : (b : Bool) → quiet l ≡ b → IsReset (cond b (granted l) (not_granted l)).answer ↔ AtRest P h
      go true e = (λ is. rests-if-quiet e, λ x. tt)
      go false e = (λ is. absurd is, λ x. let on = quiet-if-rests x in let z : ◌≡◌ {A = ℕ} 0 1 = cc in absurd (omega arith))

-- ---- a list of calls

one_more : (r : Played reference) (c : Call) → Known r.state.plan r → Each (ResetGrantedAt r.state.plan) r.history
    → Each (ResetGrantedAt r.state.plan) (step reference r c).history
one_more r (Call.request w) g x = (tt, x)
one_more r (Call.credit i p) g x = (tt, x)
one_more r Call.tick g x = (tt, x)
one_more r (Call.lend m) g x = (tt, x)
one_more r Call.reset g x = (granted-at g, x)

-- on any plan that keeps the limits, and so on the plan of any bytes that are accepted
pub resets-granted-accepted : (P : Plan) → Accepted P → (calls : List Call) → Each (ResetGrantedAt P) (run reference P calls).history
resets-granted-accepted P ok = by-calls ok (λ r. Each (ResetGrantedAt P) r.history) more tt
  where
    more : (r : Played reference) (c : Call) → Known P r → Each (Happened P) r.history → Each (ResetGrantedAt P) r.history
        → Each (ResetGrantedAt P) (step reference r c).history
    more r c g happened =
        subst (λ Q. Known Q r → Each (ResetGrantedAt Q) r.history → Each (ResetGrantedAt Q) (step reference r c).history) g.plan_is (one_more r c) g

pub resets-granted : ResetGranted reference
resets-granted bytes passes = resets-granted-accepted (plan_of bytes) (plan.accepted bytes passes)
