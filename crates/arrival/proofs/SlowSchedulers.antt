-- Two schedulers that make a flow wait meet demand 3, because they do so only to a flow to which it promises no least count. Assumes nothing.
use Prim.Native.Nat.{ℕ, zero, suc, ◌-◌, ◌%◌, ◌<◌}
use mathlib.Core.Path.{◌≡◌, refl, sym, ap, ◌∙◌, subst}
use mathlib.Core.List.{List, [], ◌∷◌}
use mathlib.Core.Bool.{Bool, true, false, ◌&&◌, ◌||◌, cond}
use native.Mathlib.Decide.{ℕ_discrete}
use native.Mathlib.Omega.{arith}
use lib.Dec.{ltb, eqb}
use borrow.Author.Tests.{ltb-true, eqb-true, eqb-false}
use Rattle.model.specs.Tables.{bit, tally}
use Rattle.model.specs.Word.{flow_of, departure_of}
use Rattle.model.specs.Plan.{Plan, flow_count, plan_of}
use Rattle.model.specs.Calls.{Call, Grant, CreditAnswer, Event, History, requested, credited, ticked, lent, accepted, refused}
use Rattle.model.specs.Window.{newest}
use Rattle.model.specs.Link.{Link, Step, window, flow, share, with_flow, moved_to}
use Rattle.model.specs.Request.{Found, found, nowhere, sought, would_be_valid, answered, request}
use Rattle.model.specs.History.{ticks, frame_of, well_formed, origin, grants, credits, grants_since, refusals_since, refused_in, in_frame}
use Rattle.model.specs.Claim.{EachSince, Ready, ReadyAt, Demand3}
use Rattle.model.specs.Scheduler.{Scheduler, Played, Meets, reference, step, play, started}
use Rattle.arrival.specs.Delay.{newest_frame}
use Rattle.arrival.specs.WrongDelays.{remembers_both, remembers, is12, had12, stays_refused, lapsed, at_newest, sends_to_newest}
use Rattle.model.proofs.Plan as plan
use Rattle.model.proofs.Tests.{and-true}
use Rattle.model.proofs.Slots.{some-frame}
use Rattle.model.proofs.Window.{newest-is}
use Rattle.model.proofs.LinkUpdates.{each_flow}
use Rattle.model.proofs.Marks.{mark, in-frame-skip, in-frame-other}
use Rattle.model.proofs.Invariant.{Spent}
use Rattle.model.proofs.BookingKeeps.{moved_keeps}
use Rattle.model.proofs.NewestFrame.{newest-number, refused-number}
use Rattle.model.proofs.LeastCount.{least-recounted}
use Rattle.model.proofs.RequestSearch.{Searched, request-searched}
use Rattle.model.proofs.HistoryCounts.{refusals-with, refusals-without, raises}
use Rattle.model.proofs.AfterHistory.{AskedOn, LeastOf, NumberOf, After, after-event}
use Rattle.model.proofs.AfterRequest.{after-request}
use Rattle.model.proofs.AfterCalls.{after-step, after-fresh}
use Rattle.model.proofs.Demand3.{demand3}
use Rattle.arrival.proofs.AnsweredRequests.{Requested, turned_back, searched, request-is}
use Rattle.arrival.proofs.TimelyRequests.{known, ready-timely, full-if-fails-later, room-later}

-- ---- a scheduler that remembers its events

-- what it remembers are its events
pub same-events : (request : Played reference → ℕ → Link × Grant) (credit : Played reference → ℕ → ℕ → Link × CreditAnswer)
    (r : Played (remembers_both request credit)) (c : Call) → r.state.history ≡ r.history
    → (step (remembers_both request credit) r c).state.history ≡ (step (remembers_both request credit) r c).history
same-events request credit r (Call.request w) e = ap (requested w (request r.state w).1 ∷◌) e
same-events request credit r (Call.credit i p) e = ap (credited i p (credit r.state i p).1 ∷◌) e
same-events request credit r Call.tick e = ap (ticked (reference.tick r.state.state).1 ∷◌) e
same-events request credit r (Call.lend m) e = ap (lent m (reference.lend r.state.state m).1 ∷◌) e
same-events request credit r Call.reset e = ap (Event.reset (reference.reset r.state.state).1 ∷◌) e

-- ---- where each request leaves a link that stands after them, and R holds of them

-- the event is no request
abbrev NoRequest : Event → Type 0
NoRequest (requested w a) = ⊥
NoRequest (credited i p a) = Unit {0}
NoRequest (ticked x) = Unit {0}
NoRequest (lent m a) = Unit {0}
NoRequest (Event.reset a) = Unit {0}

module _ (R : Plan → History → Type 0) where
  record Stands (P : Plan) (r : Played reference) : Type 0 where
    after : After P r.state r.history
    remembered : R P r.history

  module _ (request : Played reference → ℕ → Link × Grant) (at-start : (P : Plan) → R P [])
      (kept : (P : Plan) (e : Event) (h : History) → NoRequest e → R P h → R P (e ∷ h))
      (answers : (r : Played reference) (w : ℕ) → Stands r.state.plan r
      → Stands r.state.plan (record { state = (request r w).0; history = requested w (request r w).1 ∷ r.history })) where
    abbrev scheduler : Scheduler
    scheduler = remembers request

    one_more : (P : Plan) (r : Played scheduler) (c : Call) → Stands P r.state → Stands P (step scheduler r c).state
    one_more P r (Call.request w) s =
        subst (λ Q. Stands Q r.state → Stands Q (step scheduler r (Call.request w)).state) s.after.plan_is (answers r.state w) s
    one_more P r (Call.credit i p) s =
        record { after = after-step r.state (Call.credit i p) s.after; remembered = kept P _ r.state.history tt s.remembered }
    one_more P r Call.tick s = record { after = after-step r.state Call.tick s.after; remembered = kept P _ r.state.history tt s.remembered }
    one_more P r (Call.lend m) s =
        record { after = after-step r.state (Call.lend m) s.after; remembered = kept P _ r.state.history tt s.remembered }
    one_more P r Call.reset s = record { after = after-step r.state Call.reset s.after; remembered = kept P _ r.state.history tt s.remembered }

    all_meet : (P : Plan) (r : Played scheduler) (calls : List Call) → Stands P r.state → r.state.history ≡ r.history
        → (i : ℕ) → i < flow_count P → Demand3 P i (play scheduler r calls).history
    unfolding play
    all_meet P r [] s e i below =
        subst (Demand3 P i) e
        (subst (λ Q. After Q r.state.state r.state.history → i < flow_count Q → Demand3 Q i r.state.history) s.after.plan_is
        (λ g lt. demand3 r.state.state r.state.history g i lt) s.after below)
    all_meet P r (c ∷ calls) s e i below = all_meet P (step scheduler r c) calls (one_more P r c s) (same-events request (λ r i p. reference.credit r.state i p) r c e) i below

    remembering-meets : Meets scheduler
    remembering-meets bytes passes calls =
        let P = plan_of bytes in
        all_meet P (started scheduler P) calls (record { after = after-fresh (plan.accepted bytes passes); remembered = at-start P }) refl

-- ---- a flow to which no least count is promised

module _ {l : Link} {h : History} (g : After l.plan l h) where
  open l use {plan as P}
  open g use {invariant as v}
  open v.current use {accepted as ok}

  -- its requests may be refused
  module _ (w r : ℕ) (lapse : AskedOn P h (flow_of w) → ⊥) where
    abbrev e : Event
    e = requested w (refused r)

    uncounted : (q f : ℕ) → tally (in_frame P q f) (mark (flow_of w) (ticks h) ∷ refusals_since P h) ≡ refused_in P h q f → refused_in P (e ∷ h) q f ≡ refused_in P h q f
    uncounted q f skips = go (well_formed P w) refl
      where
        go : (b : Bool) → well_formed P w ≡ b → refused_in P (e ∷ h) q f ≡ refused_in P h q f
        go true well = ap (tally (in_frame P q f)) (refusals-with P w r h well) ∙ skips
        go false ill = ap (tally (in_frame P q f)) (refusals-without P w r h ill)

    least : (q : ℕ) → q < flow_count P → Dec (q ≡ flow_of w) → LeastOf P (e ∷ h) q (flow l q)
    unfolding ticks origin grants_since
    least q below (yes same) asked = absurd (lapse (rw same at so_far))
      where
        so_far : AskedOn P h q
        so_far = record {
          ready = asked.ready.1;
          refused_before = λ f since lt.
              rw (uncounted q f (in-frame-skip P q f (mark (flow_of w) (ticks h)) (refusals_since P h) (λ z. omega arith))) at (asked.refused_before f since lt);
        }
    least q below (no other) asked = least-recounted (g.least q below so_far) _ same
      where
        same : (f : ℕ) → refused_in P (e ∷ h) q f ≡ refused_in P h q f
        same f = uncounted q f (in-frame-other P q f (mark (flow_of w) (ticks h)) (refusals_since P h) (λ z. other (sym z)))

        so_far : AskedOn P h q
        so_far = record { ready = asked.ready.1; refused_before = λ f since lt. rw same at (asked.refused_before f since lt) }

    refused-stands : After P l (e ∷ h)
    unfolding ticks origin grants grants_since raises credits
    refused-stands = after-event g (record {
      plan_is = refl;
      keeps = v;
      soon = tt;
      comes_up = tt;
      word = tt;
      after_departure = tt;
      loan = tt;
      numbered = tt;
      least = λ q below. least q below (ℕ_discrete q (flow_of w));
      numbers = g.numbers;
    })

  -- and its injection frame may move on
  module _ (i : ℕ) (below : i < flow_count P) (lapse : AskedOn P h i → ⊥) where
    moved-stands : (eqb (flow l i).injection (newest (window l)) ≡ false) → After P (with_flow l i (moved_to (flow l i) (newest (window l)) (share l i))) h
    moved-stands elsewhere = record {
      plan_is = refl;
      invariant = rw (newest-is v.current) (moved_keeps v below (newest_frame P h) (share l i) (omega (arith, some-frame ok)) (omega (arith, some-frame ok)) spent);
      events = g.events;
      least = each_flow l (LeastOf P h) i (moved_to (flow l i) (newest (window l)) (share l i)) (λ asked. absurd (lapse asked)) (λ q lt d. g.least q lt);
      numbers = each_flow l (NumberOf P h) i (moved_to (flow l i) (newest (window l)) (share l i)) (g.numbers i below) (λ q lt d. g.numbers q lt);
    }
      where
        before : (v.injects i below).frame < newest_frame P h
        before = go (ℕ_discrete (v.injects i below).frame (newest_frame P h))
          where
            go : Dec ((v.injects i below).frame ≡ newest_frame P h) → (v.injects i below).frame < newest_frame P h
            go (yes e) =
                absurd (eqb-false (flow l i).injection (newest (window l)) elsewhere
                ((v.injects i below).injection_is ∙ ap (◌% P.frames) e ∙ sym (newest-is v.current)))
            go (no d) = omega (arith, (v.injects i below).high)

        spent : Spent P (grants_since P h) i (newest_frame P h) (share l i)
        spent = record {
          spent = omega (arith, (v.injects i below).spends.none_after (newest_frame P h) before);
          none_after = λ f lt. (v.injects i below).spends.none_after f (omega (arith, before));
        }

    at-newest-stands : After P (at_newest l i) h
    at-newest-stands = go (eqb (flow l i).injection (newest (window l))) refl
      where
        go : (b : Bool) → eqb (flow l i).injection (newest (window l)) ≡ b
            → After P (cond b l (with_flow l i (moved_to (flow l i) (newest (window l)) (share l i)))) h
        go true e = g
        go false e = moved-stands e

-- ---- the newest frame after a frame in which the flow was not refused

-- such a flow is one of the plan's, and did not ask until it was refused in each frame
record Lapsed (l : Link) (h : History) (i : ℕ) : Type 0 where
  known_flow : i < flow_count l.plan
  not_asked_on : AskedOn l.plan h i → ⊥

lapsed-asked : (l : Link) (h : History) (i : ℕ) → lapsed l h i ≡ true → Lapsed l h i
lapsed-asked l h i e =
    let P = l.plan in
    let all = and-true (ltb i (flow_count P) && ltb (origin P h) (frame_of P (ticks h))) (eqb (refused_in P h i (frame_of P (ticks h) - 1)) 0) e in
    let first = and-true (ltb i (flow_count P)) (ltb (origin P h) (frame_of P (ticks h))) all.0 in
    let since = ltb-true (origin P h) (frame_of P (ticks h)) first.1 in
    let none = eqb-true (refused_in P h i (frame_of P (ticks h) - 1)) 0 all.1 in
    record {
      known_flow = ltb-true i (flow_count P) first.0;
      not_asked_on = λ asked. omega (arith, asked.refused_before (frame_of P (ticks h) - 1) (omega arith) (omega arith));
    }

pub sends-to-newest-meets : Meets sends_to_newest
sends-to-newest-meets = remembering-meets (λ P h. Unit {0}) _ (λ P. tt) (λ P e h none r. tt) answers
  where
    answers : (r : Played reference) (w : ℕ) → Stands (λ P h. Unit {0}) r.state.plan r
        → Stands (λ P h. Unit {0}) r.state.plan (record {
          state = (reference.request (cond (lapsed r.state r.history (flow_of w)) (at_newest r.state (flow_of w)) r.state) w).0;
          history = requested w (reference.request (cond (lapsed r.state r.history (flow_of w)) (at_newest r.state (flow_of w)) r.state) w).1 ∷ r.history;
        })
    answers r w s = record { after = go (lapsed r.state r.history (flow_of w)) refl; remembered = tt }
      where
        l : Link
        l = r.state

        asked-on : (k : Link) → k.plan ≡ l.plan → After l.plan k r.history → After l.plan (request k w).link (requested w (request k w).answer ∷ r.history)
        asked-on k e g = subst (λ Q. After Q k r.history → After Q (request k w).link (requested w (request k w).answer ∷ r.history)) e (λ g. after-request g w) g

        go : (b : Bool) → lapsed l r.history (flow_of w) ≡ b
            → After l.plan (request (cond b (at_newest l (flow_of w)) l) w).link (requested w (request (cond b (at_newest l (flow_of w)) l) w).answer ∷ r.history)
        go true e =
            let x = lapsed-asked l r.history (flow_of w) e in
            let moved = at-newest-stands s.after (flow_of w) x.known_flow x.not_asked_on in
            asked-on (at_newest l (flow_of w)) moved.plan_is moved
        go false e = after-request s.after w

-- ---- 12 after the first 12

-- a request that is ready is not refused with 12
module _ {l : Link} {h : History} (g : After l.plan l h) (w : ℕ) where
  open l use {plan as P}
  open g use {invariant as v}
  open v.current use {accepted as ok}

  searched-not-12 : (well : well_formed P w ≡ true) → Ready P (flow_of w) w h → (f : Found) → Searched v (known g w well) (departure_of w) (λ f. 0) f
      → (answered l w f).answer ≡ refused 12 → ⊥
  unfolding answered
  searched-not-12 well x (found j c p) s e = let z : ◌≡◌ {A = ℕ} 0 1 = cc in omega arith
  searched-not-12 well x (nowhere zero) s e =
      let z = refused-number (ap refused (sym (newest-number (would_be_valid l (flow_of w)) 0)) ∙ e) in
      omega arith
  searched-not-12 well x (nowhere (suc c)) s e =
      let t = ready-timely ok (flow_of w) w h x in
      let full = full-if-fails-later g w well (newest_frame P h) (suc c) (room-later g w well t (newest_frame P h) t.in_time) t.in_time (omega (arith, some-frame ok))
      s.reached.spends s.fails in
      omega (arith, s.reached.spends.spent)

  ready-not-12 : (well_formed P w ≡ true → Ready P (flow_of w) w h) → (request l w).answer ≡ refused 12 → ⊥
  ready-not-12 ready = go (request-is l w)
    where
      go : {s : Step Grant} → Requested l w s → s.answer ≡ refused 12 → ⊥
      go (turned_back r not-12 not_passed) e = not-12 (refused-number e)
      go (searched passes) e =
          searched-not-12 passes.well (ready passes.well) (sought l (flow_of w) (departure_of w))
          (request-searched v (known g w passes.well) (departure_of w) (λ f. 0)) e

-- A flow that was refused with 12 was not ready at each request.
abbrev NotReady : Plan → History → Type 0
NotReady P h = (i : ℕ) → had12 i h ≡ true → EachSince (ReadyAt P i) h → ⊥

not-false : false ≡ true → ⊥
not-false e = let z : ◌≡◌ {A = ℕ} 0 1 = ap bit e in omega arith

none-at-start : (i : ℕ) → had12 i [] ≡ true → ⊥
unfolding had12
none-at-start i had = not-false had

not-ready-kept : (P : Plan) (e : Event) (h : History) → NoRequest e → NotReady P h → NotReady P (e ∷ h)
unfolding had12
not-ready-kept P (requested w a) h none r = absurd none
not-ready-kept P (credited j p a) h none r = λ i had ready. r i had ready.1
not-ready-kept P (ticked x) h none r = λ i had ready. r i had ready.1
not-ready-kept P (lent m a) h none r = λ i had ready. r i had ready.1
not-ready-kept P (Event.reset (accepted u)) h none r = λ i had ready. not-false had
not-ready-kept P (Event.reset (refused n)) h none r = λ i had ready. r i had ready.1

-- one answer more, of which a 12 is not of a request that is ready
not-ready-answered : (P : Plan) (w : ℕ) (a : Grant) (h : History) → NotReady P h
    → (a ≡ refused 12 → (well_formed P w ≡ true → Ready P (flow_of w) w h) → EachSince (ReadyAt P (flow_of w)) h → ⊥) → NotReady P (requested w a ∷ h)
unfolding had12
not-ready-answered P w (accepted v) h r first i had ready = r i had ready.1
not-ready-answered P w (refused n) h r first i had ready = go (is12 i (requested w (refused n))) refl had
  where
    go : (b : Bool) → eqb (flow_of w) i && eqb n 12 ≡ b → b || had12 i h ≡ true → ⊥
    go false e had = r i had ready.1
    go true e had =
        let both = and-true (eqb (flow_of w) i) (eqb n 12) e in
        let own = eqb-true (flow_of w) i both.0 in
        first (ap refused (eqb-true n 12 both.1))
        (λ well. subst (λ k. Ready P k w h) (sym own) (ready.0 well own)) (subst (λ k. EachSince (ReadyAt P k) h) (sym own) ready.1)

pub stays-refused-meets : Meets stays_refused
stays-refused-meets = remembering-meets NotReady _ (λ P i had ready. none-at-start i had) not-ready-kept answers
  where
    answers : (r : Played reference) (w : ℕ) → Stands NotReady r.state.plan r
        → Stands NotReady r.state.plan (record {
          state = (cond (had12 (flow_of w) r.history) (r.state, refused 12) (reference.request r.state w)).0;
          history = requested w (cond (had12 (flow_of w) r.history) (r.state, refused 12) (reference.request r.state w)).1 ∷ r.history;
        })
    answers r w s = go (had12 (flow_of w) r.history) refl
      where
        l : Link
        l = r.state

        h : History
        h = r.history

        handed : Bool → Link × Grant
        handed b = cond b (l, refused 12) (reference.request l w)

        go : (b : Bool) → had12 (flow_of w) h ≡ b → Stands NotReady l.plan (record { state = (handed b).0; history = requested w (handed b).1 ∷ h })
        go true had = record {
          after = refused-stands s.after w 12 (λ asked. s.remembered (flow_of w) had asked.ready);
          remembered = not-ready-answered l.plan w (refused 12) h s.remembered (λ e here before. s.remembered (flow_of w) had before);
        }
        go false had = record {
          after = after-request s.after w;
          remembered = not-ready-answered l.plan w (request l w).answer h s.remembered (λ e here before. ready-not-12 s.after w here e);
        }
