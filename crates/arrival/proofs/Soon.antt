-- The reference scheduler serves a modest flow soon: its grants fall in the frame in which the tile is due, or in the next one. Assumes nothing.
use Prim.Native.Nat.{ℕ, ◌<◌}
use mathlib.Core.Path.{◌≡◌, refl, sym, ap, ◌∙◌, subst}
use mathlib.Core.List.{List, ◌∷◌}
use mathlib.Core.Bool.{true}
use native.Mathlib.Omega.{arith}
use Rattle.model.specs.Refusals.{first_of}
use Rattle.model.specs.Word.{flow_of, departure_of, depart}
use Rattle.model.specs.Plan.{Plan, flow_count, entry, plan_of, Accepted}
use Rattle.model.specs.Calls.{Call, Grant, History, requested, accepted, refused}
use Rattle.model.specs.Window.{newest}
use Rattle.model.specs.Link.{Link, Step, window, flow, share, moved_to}
use Rattle.model.specs.Request.{Found, found, nowhere, valid_for, sought, newest_tests, would_be_valid, booked_flow, booked, refused_at_newest, answered, request}
use Rattle.model.specs.History.{ticks, slot_after, well_formed, expected_number, grants_since}
use Rattle.model.specs.Claim.{Each}
use Rattle.model.specs.Scheduler.{Played, reference, step, run}
use Rattle.arrival.specs.Delay.{newest_frame, due_slot, due_frame, due_since, due_in, Timely, TimelyInOrder, InTime, SoonOn, SoonAhead}
use Rattle.model.proofs.Plan as plan
use Rattle.model.proofs.LinkUpdates.{each_flow}
use Rattle.model.proofs.Marks.{mark, in-frame-hit}
use Rattle.model.proofs.SearchedFrames.{Ends}
use Rattle.model.proofs.AfterHistory.{After}
use Rattle.model.proofs.AfterCalls.{Known}
use Rattle.model.proofs.EventsOfRuns.{Happened, by-calls}
use Rattle.arrival.proofs.AnsweredRequests.{Passes, Requested, turned_back, searched, request-is}
use Rattle.arrival.proofs.TimelyRequests.{known}
use Rattle.arrival.proofs.Fronts.{front_same, front-other, modest-before-grant, Kept}
use Rattle.arrival.proofs.FrontsKept.{tick-kept, credit-kept, lend-kept, reset-kept, fresh_kept}
use Rattle.arrival.proofs.RequestsInTime.{Comes, comes-to, departs, in_time, front-granted, share-due, front-refused}

-- ---- the request

module _ {l : Link} {h : History} (g : After l.plan l h) (w : ℕ)
    (kept : (q : ℕ) → q < flow_count l.plan → Kept l.plan h q (flow l q).injection) where
  open l use {plan as P}

  abbrev i : ℕ
  i = flow_of w

  abbrev d : ℕ
  d = departure_of w

  -- a word that its tests turn back: the link stays, and no modest flow has asked so
  back-kept : (r : ℕ) → (Passes l w → ⊥) → (q : ℕ) → q < flow_count P → Kept P (requested w (refused r) ∷ h) q (flow l q).injection
  unfolding ticks grants_since due_since
  back-kept r not_passed q below m =
      let so_far = kept q below (record { asks = m.asks.1; within_share = m.within_share }) in
      record {
        front = front_same P q refl refl refl refl so_far.front;
        served = (λ well own. absurd (asked well own (m.asks.0 well own).timely), so_far.served);
      }
    where
      asked : well_formed P w ≡ true → flow_of w ≡ q → Timely P q w h → ⊥
      asked well own x =
          not_passed (record { well = well; number = x.number ∙ ap (expected_number P h) (sym own) ∙ sym (g.numbers i (known g w well)) })

  module _ (well : well_formed P w ≡ true) where
    -- a refusal in the newest frame
    refused-kept : (c n : ℕ) → sought l i d ≡ nowhere c → (q : ℕ) → q < flow_count P
        → Kept P (requested w (refused n) ∷ h) q (flow (refused_at_newest l i c) q).injection
    unfolding ticks grants_since due_since refused_at_newest
    refused-kept c n e =
        each_flow l (λ q x. Kept P (requested w (refused n) ∷ h) q x.injection) i (moved_to (flow l i) (newest (window l)) c) own others
      where
        own : Kept P (requested w (refused n) ∷ h) i (newest (window l))
        own m =
            let so_far = kept i (known g w well) (record { asks = m.asks.1; within_share = m.within_share }) in
            let asked = m.asks.0 well refl in
            let ends = subst (Ends (window l) (valid_for l i d) (share l i) (newest_frame P h) (Comes g w well so_far.front asked.timely asked.in_order)) e
            (comes-to g w well so_far.front asked.timely asked.in_order) in
            record {
              front = front-refused g w well so_far.front asked.timely asked.in_order c ends n;
              served = (λ well' same. share-due g w well so_far.front asked.timely asked.in_order c ends, so_far.served);
            }

        others : (q : ℕ) → q < flow_count P → (q ≡ i → ⊥) → Kept P (requested w (refused n) ∷ h) q (flow l q).injection
        others q below other m =
            let so_far = kept q below (record { asks = m.asks.1; within_share = m.within_share }) in
            record {
              front = front_same P q refl refl refl refl so_far.front;
              served = (λ well' same. absurd (other (sym same)), so_far.served);
            }

    -- a grant
    granted-kept : (j c p : ℕ) → sought l i d ≡ found j c p → (q : ℕ) → q < flow_count P
        → Kept P (requested w (accepted (depart w p)) ∷ h) q (flow (booked l i j c p) q).injection
    unfolding booked due_since
    granted-kept j c p e =
        each_flow l (λ q x. Kept P (requested w (accepted (depart w p)) ∷ h) q x.injection) i (booked_flow l i j c p) own others
      where
        own : Kept P (requested w (accepted (depart w p)) ∷ h) i j
        own m =
            let so_far = kept i (known g w well) (modest-before-grant P w (depart w p) h i m) in
            let asked = m.asks.0 well refl in
            let ends = subst (Ends (window l) (valid_for l i d) (share l i) (newest_frame P h) (Comes g w well so_far.front asked.timely asked.in_order)) e
            (comes-to g w well so_far.front asked.timely asked.in_order) in
            let few : due_in P h i (due_frame P w h) < (entry P i).share =
            omega (arith, m.within_share (due_frame P w h), in-frame-hit P i (due_frame P w h) (mark i (due_slot P w h)) (due_since P h) refl refl) in
            let is = departs g w well so_far.front asked.timely asked.in_order j c p ends in
            let served = in_time g w well so_far.front asked.timely asked.in_order j c p ends few in
            record {
              front = front-granted g w well so_far.front asked.timely asked.in_order j c p ends few (depart w p) is;
              served = (λ well' same. subst (λ u. InTime P w (slot_after P (ticks h) u) h) (sym is) served, so_far.served);
            }

        others : (q : ℕ) → q < flow_count P → (q ≡ i → ⊥) → Kept P (requested w (accepted (depart w p)) ∷ h) q (flow l q).injection
        others q below other m =
            let so_far = kept q below (modest-before-grant P w (depart w p) h q m) in
            record {
              front = front-other P w (depart w p) h q (λ same. other (sym same)) so_far.front;
              served = (λ well' same. absurd (other (sym same)), so_far.served);
            }

    searched-kept : (f : Found) → sought l i d ≡ f → (q : ℕ) → q < flow_count P
        → Kept P (requested w (answered l w f).answer ∷ h) q (flow (answered l w f).link q).injection
    unfolding answered
    searched-kept (found j c p) e = granted-kept j c p e
    searched-kept (nowhere c) e = refused-kept c (first_of (newest_tests (would_be_valid l i) c)) e

  request-kept : (q : ℕ) → q < flow_count P → Kept P (requested w (request l w).answer ∷ h) q (flow (request l w).link q).injection
  request-kept = go (request-is l w)
    where
      go : {s : Step Grant} → Requested l w s → (q : ℕ) → q < flow_count P → Kept P (requested w s.answer ∷ h) q (flow s.link q).injection
      go (turned_back r not-12 not_passed) = back-kept r not_passed
      go (searched passes) = searched-kept passes.well (sought l i d) refl

-- ---- a list of calls

abbrev pub KeptAfter : Plan → Played reference → Type 0
KeptAfter P r = (q : ℕ) → q < flow_count P → Kept P r.history q (flow r.state q).injection

call_kept : (r : Played reference) (c : Call) → Known r.state.plan r → KeptAfter r.state.plan r → KeptAfter r.state.plan (step reference r c)
call_kept r (Call.request w) g kept = request-kept g w kept
call_kept r (Call.credit i p) g kept = λ q below. credit-kept g below i p (kept q below)
call_kept r Call.tick g kept = λ q below. tick-kept g below (kept q below)
call_kept r (Call.lend mask) g kept = λ q below. lend-kept g below mask (kept q below)
call_kept r Call.reset g kept = λ q below. reset-kept g below (kept q below)

pub kept_more : {P : Plan} (r : Played reference) (c : Call) → Known P r → Each (Happened P) r.history → KeptAfter P r → KeptAfter P (step reference r c)
kept_more r c g happened = subst (λ Q. Known Q r → KeptAfter Q r → KeptAfter Q (step reference r c)) g.plan_is (call_kept r c) g

-- on any plan that keeps the limits, and so on the plan of any bytes that are accepted
pub soon-accepted : (P : Plan) → Accepted P → (calls : List Call) (i : ℕ) → i < flow_count P → SoonOn TimelyInOrder 0 P i (run reference P calls).history
soon-accepted P ok calls i known m = (by-calls ok (KeptAfter P) kept_more (fresh_kept ok) calls i known m).served

pub soon-ahead : SoonAhead reference
soon-ahead bytes passes = soon-accepted (plan_of bytes) (plan.accepted bytes passes)
