-- Schedulers that make a flow wait, and one that mixes up a stream's slots. Each is the reference scheduler but for its requests, and it may look at all calls
-- and answers so far. Demand 3 takes the first two: it promises nothing to a flow that was not ready at each request, or was not refused in each frame.
-- `Prompt` and `Soon` send them back. Assumes nothing.
use Rattle.std.specs.Prelude.{ℕ, zero, suc, ◌+◌, ◌-◌, ◌%◌, ◌∷◌, [], Bool, false, ◌&&◌, ◌||◌, cond, ltb, eqb}
use Rattle.std.proofs.Math.Option.{Option, some, none}
use Rattle.model.specs.Tables.{first_from}
use Rattle.model.specs.Refusals.{first_of}
use Rattle.model.specs.Word.{flow_of, departure_of}
use Rattle.model.specs.Plan.{flow_count}
use Rattle.model.specs.Calls.{Grant, CreditAnswer, Event, History, requested, credited, ticked, lent, accepted, refused}
use Rattle.model.specs.Window.{every_from, start, newest}
use Rattle.model.specs.Link.{Link, window, flow, holding, share, cells, with_flows, with_flow, moved_to}
use Rattle.model.specs.Request.{Found, found, nowhere, request_tests, valid_for, sought, answered}
use Rattle.model.specs.History.{ticks, frame_of, is_granted_reset, origin, refused_in}
use Rattle.model.specs.Scheduler.{Scheduler, Played, both, reference, started}
use Rattle.model.specs.WrongSchedulers.{with_request, with_tick}

-- ---- a scheduler that remembers its events

abbrev recorded : {A : Type 0} → (A → Event) → Played reference → Link × A → Played reference × A
recorded event r handed = (record { state = handed.0; history = event handed.1 ∷ r.history }, handed.1)

-- its requests and credits are answered by the link and the events so far; and its requests alone
abbrev pub remembers_both : (Played reference → ℕ → Link × Grant) → (Played reference → ℕ → ℕ → Link × CreditAnswer) → Scheduler
remembers_both request credit = record {
  State = Played reference;
  fresh = started reference;
  request = λ r w. recorded (requested w) r (request r w);
  credit = λ r i p. recorded (credited i p) r (credit r i p);
  tick = λ r. recorded ticked r (reference.tick r.state);
  lend = λ r m. recorded (lent m) r (reference.lend r.state m);
  reset = λ r. recorded Event.reset r (reference.reset r.state);
}

abbrev pub remembers : (Played reference → ℕ → Link × Grant) → Scheduler
remembers request = remembers_both request (λ r i p. reference.credit r.state i p)

-- ---- 12 after the first 12

-- the event is a refusal of flow i with 12
abbrev pub is12 : ℕ → Event → Bool
is12 i (requested w (accepted v)) = false
is12 i (requested w (refused r)) = eqb (flow_of w) i && eqb r 12
is12 i (credited j p a) = false
is12 i (ticked x) = false
is12 i (lent m a) = false
is12 i (Event.reset a) = false

-- flow i was refused with 12 since the last granted reset
unfoldable pub had12 : ℕ → History → Bool
had12 i [] = false
had12 i (e ∷ h) = cond (is_granted_reset e) false (is12 i e || had12 i h)

-- after its first 12 a flow gets 12 at each request, until a reset is granted
abbrev pub stays_refused : Scheduler
stays_refused = remembers (λ r w. cond (had12 (flow_of w) r.history) (r.state, refused 12) (reference.request r.state w))

-- the same, where a reset changes nothing
unfoldable pub ever12 : ℕ → History → Bool
ever12 i [] = false
ever12 i (e ∷ h) = is12 i e || ever12 i h

abbrev pub never_forgets : Scheduler
never_forgets = remembers (λ r w. cond (ever12 (flow_of w) r.history) (r.state, refused 12) (reference.request r.state w))

-- ---- the newest frame after a frame in which the flow was not refused

-- flow i is one of the plan's, and it was not refused in the frame before the current one, where the counts had begun
abbrev pub lapsed : Link → History → ℕ → Bool
lapsed l h i =
    ltb i (flow_count l.plan) && ltb (origin l.plan h) (frame_of l.plan (ticks h))
    && eqb (refused_in l.plan h i (frame_of l.plan (ticks h) - 1)) 0

-- flow i injects in the newest frame
abbrev pub at_newest : Link → ℕ → Link
at_newest l i =
    cond (eqb (flow l i).injection (newest (window l))) l (with_flow l i (moved_to (flow l i) (newest (window l)) (share l i)))

abbrev pub sends_to_newest : Scheduler
sends_to_newest = remembers (λ r w. reference.request (cond (lapsed r.state r.history (flow_of w)) (at_newest r.state (flow_of w)) r.state) w)

-- ---- three that demand 3 sends back too

-- refuses every request in a frame's first slot
abbrev pub rests_at_first : Scheduler
rests_at_first = with_request (λ l w. cond (eqb (l.current % l.plan.slots) 0) (l, refused 12) (reference.request l w))

-- looks in no other frame than the newest
abbrev pub newest_only : Scheduler
newest_only = with_request (λ l w. reference.request (at_newest l (flow_of w)) w)

-- a tick moves every flow on to the newest frame
abbrev all_at_newest : {A : Type 0} → Link × A → Link × A
all_at_newest handed = (with_flows handed.0 (λ i. flow (at_newest handed.0 i) i), handed.1)

abbrev pub tick_moves_on : Scheduler
tick_moves_on = with_tick (λ l. all_at_newest (reference.tick l))

-- ---- a frame's last slot

-- the last position of frame j that is valid for flow i's request with departure d, or p
abbrev last_in : Link → (i d j p : ℕ) → ℕ
last_in l i d j p = ends (first_from l.plan.slots 0 (λ x. valid_for l i d (last - x)))
  where
    last : ℕ
    last = start (window l) j + l.plan.slots - 1

    ends : Option ℕ → ℕ
    ends (some x) = last - x
    ends none = p

abbrev last_found : Link → (i d : ℕ) → Found → Found
last_found l i d (found j c p) = found j c (last_in l i d j p)
last_found l i d (nowhere c) = nowhere c

-- a word that passes its tests is granted the last valid slot of the frame, where the flow has no room in some slot from the current one on
abbrev pub takes_last : Scheduler
takes_last = with_request (λ l w. cond (room_now l (flow_of w)) (reference.request l w) (grants_last (first_of (request_tests l.plan (flow l (flow_of w)).number w)) l w))
  where
    room_now : Link → ℕ → Bool
    room_now l i = every_from (window l) l.current (λ q. ltb (holding l i q) (cells l i))

    grants_last : ℕ → Link → ℕ → Link × Grant
    grants_last zero l w = both (answered l w (last_found l (flow_of w) (departure_of w) (sought l (flow_of w) (departure_of w))))
    grants_last (suc r) l w = (l, refused (suc r))
