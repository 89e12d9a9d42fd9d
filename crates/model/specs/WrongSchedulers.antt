-- Schedulers that have to be ruled out, among them three with slips that a short test doesn't tell. Assumes nothing.
--
-- Each is the reference scheduler but for one fault.
use Rattle.std.specs.Prelude.{ℕ, zero, suc, ◌-◌, ◌%◌, List, ◌∷◌, [], Bool, not, ◌&&◌, cond, ltb, eqb}
use Rattle.model.specs.Tables.{table, every, first_from, ahead}
use Rattle.model.specs.Refusals.{Line, first_of, ◌when◌}
use Rattle.model.specs.Word.{flow_of, departure_of, depart}
use Rattle.model.specs.Plan.{Plan, positions, flow_count}
use Rattle.model.specs.Calls.{Grant, CreditAnswer, TickAnswer, LendAnswer, ResetAnswer, accepted, refused}
use Rattle.model.specs.Window.{Window, passed, every_from, frame_at, start, next, newest}
use Rattle.model.specs.Link.{Link, window, owner, flow, holding, share, cells, link_with, with_flows, moved_to, with_held}
use Rattle.model.specs.Request.{Found, found, nowhere, request_tests, unbooked, can_leave, valid_for, or_else, search, some_in_newest, would_be_valid}
use Rattle.model.specs.Request.{newest_tests, refused_at_newest, answered}
use Rattle.model.specs.Credit.{credit_after}
use Rattle.model.specs.Tick.{next_position}
use Rattle.model.specs.Scheduler.{Scheduler, both, reference}

-- ---- the reference scheduler with another function for one call

abbrev scheduler_with : (Plan → Link) → (Link → ℕ → Link × Grant) → (Link → ℕ → ℕ → Link × CreditAnswer) → (Link → Link × TickAnswer)
    → (Link → ℕ → Link × LendAnswer) → (Link → Link × ResetAnswer) → Scheduler
scheduler_with fresh request credit tick lend reset = record {
  State = Link;
  fresh = fresh;
  request = request;
  credit = credit;
  tick = tick;
  lend = lend;
  reset = reset;
}

abbrev with_fresh : (Plan → Link) → Scheduler
with_fresh fresh = scheduler_with fresh reference.request reference.credit reference.tick reference.lend reference.reset

abbrev pub with_request : (Link → ℕ → Link × Grant) → Scheduler
with_request request = scheduler_with reference.fresh request reference.credit reference.tick reference.lend reference.reset

abbrev with_credit : (Link → ℕ → ℕ → Link × CreditAnswer) → Scheduler
with_credit credit = scheduler_with reference.fresh reference.request credit reference.tick reference.lend reference.reset

abbrev pub with_tick : (Link → Link × TickAnswer) → Scheduler
with_tick tick = scheduler_with reference.fresh reference.request reference.credit tick reference.lend reference.reset

abbrev pub with_lend : (Link → ℕ → Link × LendAnswer) → Scheduler
with_lend lend = scheduler_with reference.fresh reference.request reference.credit reference.tick lend reference.reset

abbrev pub with_reset : (Link → Link × ResetAnswer) → Scheduler
with_reset reset = scheduler_with reference.fresh reference.request reference.credit reference.tick reference.lend reset

-- ---- schedulers that demand 3 has to rule out

-- refuses each request, with any number, whatever it does to the link
abbrev pub refuses_all : (Link → ℕ → Link × ℕ) → Scheduler
refuses_all refusal = with_request (λ l w. ((refusal l w).0, refused (refusal l w).1))

-- the same for flow 1 alone, as demand 3 is said of each flow
abbrev pub refuses_flow1 : Scheduler
refuses_flow1 = with_request (λ l w. cond (eqb (flow_of w) 1) (l, refused 12) (reference.request l w))

-- grants position p each time, whatever it does to the link
abbrev pub grants_one : ℕ → (Link → ℕ → Link) → Scheduler
grants_one p next = with_request (λ l w. (next l w, accepted (depart w p)))

-- leaves the owners as they are when it books
abbrev unwritten : Link → Link → Link
unwritten l next = link_with next next.current l.owners next.flows next.marked next.turn

abbrev pub writes_no_booking : Scheduler
writes_no_booking = with_request (λ l w. (unwritten l (reference.request l w).0, (reference.request l w).1))

-- keeps to the rules for one window, and then refuses: the state has the number of ticks
pub record Counted : Type 0 where
  pub link : Link
  pub ticks : ℕ

abbrev counted : {A : Type 0} → ℕ → Link × A → Counted × A
counted ticks r = (record { link = r.0; ticks = ticks }, r.1)

abbrev pub first_window_only : Scheduler
first_window_only = record {
  State = Counted;
  fresh = λ P. record { link = reference.fresh P; ticks = 0 };
  request = λ s w. cond (ltb s.ticks (positions s.link.plan)) (counted s.ticks (reference.request s.link w)) (s, refused 12);
  credit = λ s i p. counted s.ticks (reference.credit s.link i p);
  tick = λ s. counted (suc s.ticks) (reference.tick s.link);
  lend = λ s m. counted s.ticks (reference.lend s.link m);
  reset = λ s. counted s.ticks (reference.reset s.link);
}

-- the credit's tests, with another one of what the flow holds
abbrev credit_tests_with : (Link → ℕ → ℕ → Bool) → Link → ℕ → ℕ → List Line
credit_tests_with holds l i p =
    8 when not (ltb i (flow_count l.plan))
    ∷ 13 when not (ltb p (positions l.plan))
    ∷ 14 when passed (window l) p
    ∷ 15 when not (holds l i p)
    ∷ []

abbrev with_holding_test : (Link → ℕ → ℕ → Bool) → Scheduler
with_holding_test holds = with_credit (λ l i p. both (credit_after (first_of (credit_tests_with holds l i p)) l i p))

-- gives 11 from the start: each flow starts in the newest frame with C = 0
abbrev pub starts_at_zero : Scheduler
starts_at_zero = with_fresh (λ P. with_flows (reference.fresh P) (λ i. moved_to (flow (reference.fresh P) i) (P.frames - 1) 0))

-- ---- the three slips

-- RULES 7.1: a credit tested at its own position alone
abbrev pub tests_own_position : Scheduler
tests_own_position = with_holding_test (λ l i p. ltb 0 (holding l i p))

-- the model's request with another search, and another test whether a position of the newest frame would be valid but for the departure
module _ (sought : Link → (i d : ℕ) → Found) (would : Link → ℕ → Bool) where
  abbrev answered_with : Link → ℕ → Found → Link × Grant
  answered_with l w (found j c p) = both (answered l w (found j c p))
  answered_with l w (nowhere c) = (refused_at_newest l (flow_of w) c, refused (first_of (newest_tests (would l (flow_of w)) c)))

  abbrev searched : ℕ → Link → ℕ → Link × Grant
  searched zero l w = answered_with l w (sought l (flow_of w) (departure_of w))
  searched (suc r) l w = (l, refused (suc r))

  abbrev searches : Scheduler
  searches = with_request (λ l w. searched (first_of (request_tests l.plan (flow l (flow_of w)).number w)) l w)

abbrev with_search : (Link → (i d : ℕ) → Found) → Scheduler
with_search sought = searches sought would_be_valid

-- the model's request with another test of a position, and of a position against the departure
module _ (valid : Link → (i p : ℕ) → Bool) (leaves : Window → (d p : ℕ) → Bool) where
  abbrev sought_by : Link → (i d : ℕ) → Found
  sought_by l i d =
      search (window l) (λ p. valid l i p && leaves (window l) d p) (share l i) (ahead l.plan.frames (flow l i).injection (newest (window l)))
      (flow l i).injection (flow l i).remainder

  abbrev pub with_valid : Scheduler
  with_valid = searches sought_by (λ l i. some_in_newest (window l) (valid l i))

-- another holding than by RULES 4.4: requests and credits are tested against invented ones
abbrev valid_with : (Link → ℕ → ℕ → ℕ) → Link → ℕ → ℕ → Bool
valid_with invented l i p =
    unbooked (owner l p) && not (passed (window l) p) && every_from (window l) p (λ q. ltb (invented l i q) (cells l i))

abbrev pub invents_holding : (for_requests for_credits : Link → ℕ → ℕ → ℕ) → Scheduler
invents_holding for_requests for_credits =
    scheduler_with reference.fresh (with_valid (valid_with for_requests) can_leave).request
    (with_holding_test (λ l i p. every_from (window l) p (λ q. ltb 0 (for_credits l i q)))).credit reference.tick reference.lend reference.reset

-- all of its cells everywhere, where the flow holds them anywhere in the window
abbrev pub fullest : Link → ℕ → ℕ → ℕ
fullest l i q = cond (every (positions l.plan) (λ p. ltb (holding l i p) (cells l i))) 0 (cells l i)

-- RULES 3.3: the order that doesn't go round. The walk of frame W - 1 never meets 0, and goes on through the 256 entries
module _ (l : Link) (i d : ℕ) where
  abbrev walked : ℕ → ℕ
  walked j = cond (eqb (suc j) l.plan.frames) (256 - start (window l) j) l.plan.slots

  abbrev found_past_end : ℕ → ℕ → Found → Found
  found_past_end j c rest = or_else j c (first_from (walked j) (start (window l) j) (valid_for l i d)) rest

  abbrev search_past_end : (more j c : ℕ) → Found
  search_past_end zero j zero = nowhere 0
  search_past_end zero j (suc c) = found_past_end j c (nowhere (suc c))
  search_past_end (suc more) j zero = search_past_end more (next (window l) j) (share l i)
  search_past_end (suc more) j (suc c) = found_past_end j c (search_past_end more (next (window l) j) (share l i))

  abbrev sought_past_end : Found
  sought_past_end = search_past_end (ahead l.plan.frames (flow l i).injection (newest (window l))) (flow l i).injection (flow l i).remainder

abbrev pub walks_past_end : Scheduler
walks_past_end = with_search sought_past_end

-- the same slip in the walk over frames: it goes on to frame W - 1, and not round to the newest frame
abbrev sought_before_end : Link → (i d : ℕ) → Found
sought_before_end l i d =
    search (window l) (valid_for l i d) (share l i) (l.plan.frames - 1 - (flow l i).injection) (flow l i).injection (flow l i).remainder

abbrev pub stops_at_last_frame : Scheduler
stops_at_last_frame = with_search sought_before_end

-- RULES 8.2: what a flow held is dropped: at a frame change nothing is held in the frame that becomes the newest
abbrev dropped : Link → Link
dropped l =
    with_flows l
    (λ i. with_held (flow l i) (table (positions l.plan) (λ q. cond (eqb (frame_at (window l) q) (newest (window l))) 0 (holding l i q))))

abbrev pub drops_holdings : Scheduler
drops_holdings =
    with_tick (λ l. (cond (eqb (next_position l % l.plan.slots) 0) (dropped (reference.tick l).0) (reference.tick l).0, (reference.tick l).1))
