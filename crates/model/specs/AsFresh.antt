-- What a granted reset leaves: a link that takes requests like one that is fresh but for the clock and the numbers that are expected. RULES 10.3.
-- Assumes nothing.
use Rattle.std.specs.Prelude.{ℕ, ◌/◌, ◌<◌, ◌≡◌, List, ◌∷◌, []}
use Rattle.model.specs.Plan.{Plan, Accepted, positions, entry}
use Rattle.model.specs.Calls.{Grant, ResetAnswer, accepted}
use Rattle.model.specs.Link.{Link, Flow, Step, flow, with_current, with_flows, moved_to, with_number}
use Rattle.model.specs.Fresh.{fresh_flow, fresh}
use Rattle.model.specs.Request.{request}

-- the link that fresh makes, but with CP at p, each IF the frame of p, and each flow i's number `numbers i`
abbrev pub flow_at : Plan → (p : ℕ) → (numbers : ℕ → ℕ) → (i : ℕ) → Flow
flow_at P p numbers i = with_number (moved_to (fresh_flow P i) (p / P.slots) (entry P i).share) (numbers i)

abbrev pub fresh_at : Plan → (p : ℕ) → (numbers : ℕ → ℕ) → Link
fresh_at P p numbers = with_current (with_flows (fresh P) (flow_at P p numbers)) p

-- the answers to requests with these words, one after the other
unfoldable pub answers_to : Link → List ℕ → List Grant
answers_to l [] = []
answers_to l (w ∷ ws) = (request l w).answer ∷ answers_to (request l w).link ws

-- ---- of a reset, on every link, whether or not calls lead to it from fresh

-- RULES 10.3: after a granted one requests are answered as on that link.
abbrev pub GoesOnAsFresh : (Link → Step ResetAnswer) → Type 0
GoesOnAsFresh reset =
    (l : Link) → Accepted l.plan → l.current < positions l.plan → (reset l).answer ≡ accepted tt
    → (words : List ℕ) → answers_to (reset l).link words ≡ answers_to (fresh_at l.plan l.current (λ i. (flow l i).number)) words

-- RULES 10.3: a second one in the same slot is granted, and changes nothing.
abbrev pub TwiceIsOnce : (Link → Step ResetAnswer) → Type 0
TwiceIsOnce reset =
    (l : Link) → l.current < positions l.plan → (reset l).answer ≡ accepted tt
    → reset (reset l).link ≡ record { link = (reset l).link; answer = accepted tt }

-- RULES 10.3: on a fresh link it is granted, and changes nothing.
abbrev pub FreshStays : (Link → Step ResetAnswer) → Type 0
FreshStays reset = (P : Plan) → Accepted P → reset (fresh P) ≡ record { link = fresh P; answer = accepted tt }
