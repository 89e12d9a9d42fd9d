-- The request. RULES 5.2, 5.3 and 6.1 to 6.6. Assumes nothing.
use Rattle.std.specs.Prelude.{ℕ, zero, suc, ◌+◌, ◌%◌, List, ◌∷◌, [], ◌++◌, Bool, true, false, not, ◌&&◌, ◌||◌, cond, ltb, eqb}
use Rattle.std.proofs.Math.Option.{Option, some, none}
use Rattle.model.specs.Tables.{any, first_from, ahead}
use Rattle.model.specs.Refusals.{Line, first_of, ◌when◌}
use Rattle.model.specs.Word.{flow_of, destination_of, quantum_of, departure_of, quantum_numbers, depart}
use Rattle.model.specs.Plan.{Plan, positions, flow_count, entry}
use Rattle.model.specs.Calls.{Grant, accepted, refused}
use Rattle.model.specs.Window.{Window, start, next, newest, later, passed, every_from}
use Rattle.model.specs.Link.{Link, Flow, Step, window, owner, flow, holding, share, cells, with_owners, with_flow, moved_to, with_held}
use Rattle.model.specs.Link.{with_number, held_from}

-- ---- the word's own tests

-- RULES 5.2: the tests 8, 9 and 10
abbrev pub word_tests : Plan → ℕ → List Line
word_tests P w =
    -- no such flow
    8 when not (ltb (flow_of w) (flow_count P))
    -- another destination than its flow's
    ∷ 9 when not (eqb (destination_of w) (entry P (flow_of w)).destination)
    -- no position
    ∷ 10 when not (ltb (departure_of w) (positions P))
    ∷ []

-- RULES 5.2: test 24, where the number `expected` is expected of the word's flow
abbrev pub number_tests : (expected w : ℕ) → List Line
number_tests expected w = 24 when not (eqb (quantum_of w) expected) ∷ []

-- RULES 5.2: all that is tested before the search
abbrev pub request_tests : Plan → (expected w : ℕ) → List Line
request_tests P expected w = word_tests P w ++ number_tests expected w

-- RULES 5.3: the number after a grant
abbrev pub next_number : ℕ → ℕ
next_number k = (k + 1) % quantum_numbers

-- ---- which positions are valid

abbrev pub unbooked : Option ℕ → Bool
unbooked none = true
unbooked (some i) = false

-- RULES 6.2: a position that is valid for flow i
unfoldable pub valid : Link → ℕ → ℕ → Bool
valid l i p =
    unbooked (owner l p) && not (passed (window l) p)
    && every_from (window l) p (λ q. ltb (holding l i q) (cells l i))

-- RULES 6.3: where the word's departure is d and is still to come, the position has to be later than d; where it has gone by, any will do
unfoldable pub can_leave : Window → (d p : ℕ) → Bool
can_leave w d p = not (later w d w.current) || later w p d

-- RULES 6.2 and 6.3: position p is valid for a request of flow i with departure d
unfoldable pub valid_for : Link → (i d p : ℕ) → Bool
valid_for l i d p = valid l i p && can_leave (window l) d p

-- ---- the search

-- What the search comes to: the position to book, its frame and what C falls to; or no position, and what C then is.
pub data Found : Type 0 where
  found : (frame remainder position : ℕ) → Found
  nowhere : (remainder : ℕ) → Found

-- the position, where there is one, booked in frame j with C fallen to c; else what the search comes to without it
abbrev pub or_else : (j c : ℕ) → Option ℕ → Found → Found
or_else j c (some p) rest = found j c p
or_else j c none rest = rest

-- RULES 6.4: the search, where a position is valid if it passes `ok`. IF is frame j, C the last argument, and `more` frames come after j up to the
-- newest.
module _ (w : Window) (ok : ℕ → Bool) (share : ℕ) where
  -- RULES 6.4: the lowest valid position of frame j
  abbrev pub earliest : ℕ → Option ℕ
  earliest j = first_from w.slots (start w j) ok

  unfoldable pub search : (more j remainder : ℕ) → Found
  -- RULES 6.4, step 3: IF is newest, and C is 0: 11
  search zero j zero = nowhere 0
  -- step 1 in the newest frame, which takes one of C; and step 3: 20 or 12
  search zero j (suc c) = or_else j c (earliest j) (nowhere (suc c))
  -- step 2, as C is 0
  search (suc more) j zero = search more (next w j) share
  -- step 1, and step 2 where no position is valid
  search (suc more) j (suc c) = or_else j c (earliest j) (search more (next w j) share)

-- RULES 6.1: the search of flow i's request with departure d, from its injection frame to the newest
unfoldable pub sought : Link → (i d : ℕ) → Found
sought l i d =
    search (window l) (valid_for l i d) (share l i) (ahead l.plan.frames (flow l i).injection (newest (window l)))
    (flow l i).injection (flow l i).remainder

-- ---- the refusals in the newest frame

-- the newest frame has a position that passes `ok`
abbrev pub some_in_newest : Window → (ℕ → Bool) → Bool
some_in_newest w ok = any w.slots (λ x. ok (start w (newest w) + x))

-- RULES 6.4: whether some position of the newest frame is valid but for the departure
unfoldable pub would_be_valid : Link → ℕ → Bool
would_be_valid l i = some_in_newest (window l) (valid l i)

-- RULES 6.4, step 3: no position is found; C is c, and `would` says whether one is valid but for the departure
abbrev pub newest_tests : (would : Bool) (c : ℕ) → List Line
newest_tests would c =
    -- no slot is left to the flow
    11 when eqb c 0
    -- the tile comes too late
    ∷ 20 when would
    -- no position is valid
    ∷ 12 when true
    ∷ []

-- ---- what the request does

-- RULES 6.5: flow i after it booked position p of frame j, with C left; its next number is one more
abbrev pub booked_flow : Link → (i j c p : ℕ) → Flow
booked_flow l i j c p = with_number (with_held (moved_to (flow l i) j c) (held_from l i p suc)) (next_number (flow l i).number)

unfoldable pub booked : Link → (i j c p : ℕ) → Link
booked l i j c p = with_flow (with_owners l (λ q. cond (eqb q p) (some i) (owner l q))) i (booked_flow l i j c p)

-- RULES 6.6: what 11, 12 and 20 leave
unfoldable pub refused_at_newest : Link → ℕ → ℕ → Link
refused_at_newest l i c = with_flow l i (moved_to (flow l i) (newest (window l)) c)

unfoldable pub answered : Link → ℕ → Found → Step Grant
answered l w (found j c p) = record { link = booked l (flow_of w) j c p; answer = accepted (depart w p) }
answered l w (nowhere c) = record { link = refused_at_newest l (flow_of w) c; answer = refused (first_of (newest_tests (would_be_valid l (flow_of w)) c)) }

-- RULES 1.3: the request, where the tests before the search give the number r, which leaves all as it was
unfoldable pub request_after : ℕ → Link → ℕ → Step Grant
request_after zero l w = answered l w (sought l (flow_of w) (departure_of w))
request_after (suc r) l w = record { link = l; answer = refused (suc r) }

-- RULES 6.1: the request
unfoldable pub request : Link → ℕ → Step Grant
request l w = request_after (first_of (request_tests l.plan (flow l (flow_of w)).number w)) l w
