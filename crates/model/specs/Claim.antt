-- Demand 3: one claim about the events of a whole list of calls. RULES 21.1 and 21.4 to 21.9. It names no link. Assumes nothing.
--
-- It says of each flow the most and the least that it is granted, what it holds, and of each slot who owns it. The most and the least begin afresh
-- with a granted reset, and the rest is said of the whole list.
--
-- Demand 3 cannot see what follows; the rules of each call say it:
-- - which number a refusal has, and what C and IF are after it;
-- - which of a frame's valid positions is granted, as long as the counts come out; and in which frame, to a stream that asks for less than its share: a
-- scheduler
--   that sends one to the newest frame meets demand 3 (`sends-to-newest-meets`). `Soon` and `SoonAhead` in Delay.antt of the crate arrival see that a modest
--   stream's slot is in the frame in which its tile is due or in the next one, and not in which of the two: a scheduler that never books in the current frame
--   can pass them. What is built on them sees by when a tile comes up on several links (SeveralLinks.antt) and from a source (Source.antt); the files that
--   follow are there too;
-- - that a stream's slots come in the order of its requests: `BooksInOrder` and `SharesInOrder` (SharesOfCells.antt) say when they do;
-- - credits refused that should be taken, and credits taken that should be refused with 8, 13 or 14 (of a position p of T or more it counts p
--   modulo T). A scheduler that refuses every credit meets demand 3, and is prompt and soon (`keeping-meets`). `CreditAccepted` in AcceptedCredits.antt sees both;
-- - requests refused to a stream that lapsed once: in some frame it was not refused, so that a stream that asks for less than its share has no least
--   count from the next frame on; or once it asked with all of its cells held in a slot from the current one on, as flow 0 does in the listing's
--   third call; or once it asked for a tile that had not come, or with another number than the expected one. A scheduler that gives a flow 12
--   after its first 12 until a reset is granted meets demand 3 (`stays-refused-meets`), and so does one that refuses whenever the tile has not come.
--   `Prompt` in Delay.antt sees such refusals of requests that fit the newest frame, and SharesOfCells.antt and SharesAhead.antt say with how many cells a
--   stream has none;
-- - words granted with another number than the expected one (`QuantumNumbers.antt` says which numbers granted words carry);
-- - whose turn it is to be lent to: fairness says that (Fairness.antt);
-- - lends refused that should be answered, as by a mark that stands past the tick, or that a refused lend sets: `LendAnswered` in AnsweredLends.antt sees
--   them. And with which number; a lent slot booked in the table of owners; what is held of a lent slot in slots that are gone, or in the current one;
-- - resets refused that should be granted, and one granted over cells that are held, where they stay held: `ResetGranted` sees both. And a remainder C
--   that a reset leaves as it was, since the least count is that of the frames after the one of the reset; an IF that it leaves, where W = 2; owners that
--   it leaves at CP or before it; and what it does to holdings of slots that are gone.
use Rattle.std.specs.Prelude.{ℕ, ◌+◌, ◌-◌, ◌*◌, ◌^◌, ◌≤◌, ◌<◌, ◌≡◌, ◌↔◌, ◌∷◌, [], true, false, cond}
use Rattle.std.proofs.Math.Option.{some}
use Rattle.model.specs.Word.{flow_of, quantum_of, departure_of, depart}
use Rattle.model.specs.Plan.{Plan, positions, flow_count, entry}
use Rattle.model.specs.Calls.{Event, History, TickAnswer, requested, credited, ticked, lent, accepted, refused, in_mask}
use Rattle.model.specs.History.{ticks, slot_after, well_formed, has_come, is_granted_reset, origin, changes}
use Rattle.model.specs.History.{granted, granted_in, refused_in, granted_up_to, lent_up_to, credited_up_to, expected_number, owners_of, WasGranted}

-- ---- each event, and what was before it

abbrev pub Each : (Event → History → Type 0) → History → Type 0
Each Q [] = Unit {0}
Each Q (e ∷ h) = Q e h × Each Q h

-- the same, since the last granted reset
abbrev pub EachSince : (Event → History → Type 0) → History → Type 0
EachSince Q [] = Unit {0}
EachSince Q (e ∷ h) = cond (is_granted_reset e) (Unit {0}) (Q e h × EachSince Q h)

-- Q holds of the word, where the event is a request.
abbrev pub AtRequest : (ℕ → History → Type 0) → Event → History → Type 0
AtRequest Q (requested w a) h = Q w h
AtRequest Q (credited j p a) h = Unit {0}
AtRequest Q (ticked x) h = Unit {0}
AtRequest Q (lent m a) h = Unit {0}
AtRequest Q (Event.reset a) h = Unit {0}

-- Q holds of the asked word and the granted one, where the event is a grant.
abbrev pub AtGrant : (ℕ → ℕ → History → Type 0) → Event → History → Type 0
AtGrant Q (requested w (accepted v)) h = Q w v h
AtGrant Q (requested w (refused r)) h = Unit {0}
AtGrant Q (credited j p a) h = Unit {0}
AtGrant Q (ticked x) h = Unit {0}
AtGrant Q (lent m a) h = Unit {0}
AtGrant Q (Event.reset a) h = Unit {0}

-- Q holds of the answer, where the event is a tick.
abbrev pub AtTick : (TickAnswer → History → Type 0) → Event → History → Type 0
AtTick Q (requested w a) h = Unit {0}
AtTick Q (credited j p a) h = Unit {0}
AtTick Q (ticked x) h = Q x h
AtTick Q (lent m a) h = Unit {0}
AtTick Q (Event.reset a) h = Unit {0}

-- Q holds of the mask and the flow, where the event is a lend that is answered with a flow.
abbrev pub AtLoan : (ℕ → ℕ → Type 0) → Event → History → Type 0
AtLoan Q (requested w a) h = Unit {0}
AtLoan Q (credited j p a) h = Unit {0}
AtLoan Q (ticked x) h = Unit {0}
AtLoan Q (lent m (accepted i)) h = Q m i
AtLoan Q (lent m (refused r)) h = Unit {0}
AtLoan Q (Event.reset a) h = Unit {0}

-- ---- the stream that asks until it is refused

-- RULES 21.8: after h, flow i holds fewer than its cells in every slot from the current one on
abbrev pub Room : Plan → ℕ → History → Type 0
Room P i h = (s : ℕ) → ticks h ≤ s → granted_up_to P h i s + lent_up_to h i s < credited_up_to P h i s + (entry P i).cells

-- what the least count asks of each well-formed request of flow i, with word w, after h
pub record Ready (P : Plan) (i w : ℕ) (h : History) : Type 0 where
  pub room : Room P i h
  -- RULES 21.8: the tile has come, by 6.3
  pub come : has_come P (ticks h) (departure_of w) ≡ true
  -- RULES 21.8: the word carries its flow's next number. The grants are those of the whole list, as no reset starts the numbers afresh. A word is
  -- well formed whatever its number, so that by the letter a refusal with 24 is one of the refusals that are asked for. Of a stream that keeps this
  -- premise at each of its well-formed requests a link that gives 24 only to a word with another number has none.
  pub number : quantum_of w ≡ expected_number P h i

-- RULES 21.8: so at each well-formed request of flow i
abbrev pub ReadyAt : Plan → ℕ → Event → History → Type 0
ReadyAt P i = AtRequest (λ w h. well_formed P w ≡ true → flow_of w ≡ i → Ready P i w h)

-- RULES 21.8: flow i is refused in each frame from 0 to k; since a granted reset (21.9), in each of the k + 1 frames from its frame on
abbrev pub RefusedInEachFrame : Plan → ℕ → History → Type 0
RefusedInEachFrame P i h = (f : ℕ) → origin P h ≤ f → f ≤ origin P h + changes P h → 0 < refused_in P h i f

-- RULES 21.8: what a flow has to do for the least count
pub record Persistent (P : Plan) (i : ℕ) (h : History) : Type 0 where
  pub refused_in_each_frame : RefusedInEachFrame P i h
  pub ready_at_each_request : EachSince (ReadyAt P i) h

-- ---- what is held, granted and answered

-- RULES 21.4 and 21.5: what flow i holds at slot s, at most its cells
pub record Held (P : Plan) (i : ℕ) (h : History) (s : ℕ) : Type 0 where
  pub held : ℕ
  pub is : granted_up_to P h i s + lent_up_to h i s ≡ credited_up_to P h i s + held
  pub within : held ≤ (entry P i).cells

-- RULES 21.5: at every slot, after each call
abbrev pub HeldAt : Plan → ℕ → Event → History → Type 0
HeldAt P i e h = (s : ℕ) → Held P i (e ∷ h) s

-- RULES 21.6: a granted slot lies less than T after the current one
abbrev pub SoonAt : Plan → Event → History → Type 0
SoonAt P = AtGrant (λ w v h. slot_after P (ticks h) (departure_of v) < ticks h + positions P)

-- RULES 21.6: a tick answers the flow that its slot was granted to, and idle where there is none
abbrev pub ComesUpAt : Plan → Event → History → Type 0
ComesUpAt P = AtTick (λ x h. (i : ℕ) → (x ≡ some i) ↔ WasGranted P h i (ticks h + 1))

-- RULES 21.6: a granted word v is the asked word w with another departure, a position; and w was well formed.
pub record GrantedWord (P : Plan) (w v : ℕ) : Type 0 where
  pub asked_well_formed : well_formed P w ≡ true
  pub same_but_departure : v ≡ depart w (departure_of v)
  pub position : departure_of v < positions P

abbrev pub GrantedWordAt : Plan → Event → History → Type 0
GrantedWordAt P = AtGrant (λ w v h. GrantedWord P w v)

-- RULES 21.6: where the tile has not come, the granted slot comes after that of the asked word's departure
abbrev pub AfterDepartureAt : Plan → Event → History → Type 0
AfterDepartureAt P = AtGrant (λ w v h. well_formed P w ≡ true → has_come P (ticks h) (departure_of w) ≡ false
    → slot_after P (ticks h) (departure_of w) < slot_after P (ticks h) (departure_of v))

-- RULES 21.6: a lend is answered with a flow of its mask, which has no bit at n or above
pub record LentFlow (P : Plan) (m i : ℕ) : Type 0 where
  pub mask_below : m < 2 ^ flow_count P
  pub known : i < flow_count P
  pub in_mask : in_mask m i ≡ true

abbrev pub LentFlowAt : Plan → Event → History → Type 0
LentFlowAt P = AtLoan (LentFlow P)

-- ---- the clauses of the claim

pub data Clause : Type 0 where
  -- the most and the least that is granted, without what is lent; RULES 21.9: they begin afresh with a granted reset
  most most-in-a-frame least : Clause
  -- over the whole list, granted resets in it too
  within_cells one_owner within-a-window comes_up granted-words after_departure lent-flows : Clause

-- what each says of flow i
abbrev pub Says : Clause → Plan → ℕ → History → Type 0
-- RULES 21.7: over all frames
Says Clause.most P i h = granted P h i ≤ (P.frames + changes P h) * (entry P i).share
-- RULES 21.7: in any one frame
Says Clause.most-in-a-frame P i h = (f : ℕ) → granted_in P h i f ≤ (entry P i).share
-- RULES 21.8: at least, for a stream that asks until it is refused
Says Clause.least P i h = Persistent P i h → (P.frames - 1 + changes P h) * (entry P i).share ≤ granted P h i
Says Clause.within_cells P i h = Each (HeldAt P i) h
-- RULES 21.6: no slot has two owners
Says Clause.one_owner P i h = (s : ℕ) → owners_of P h s ≤ 1
Says Clause.within-a-window P i h = Each (SoonAt P) h
Says Clause.comes_up P i h = Each (ComesUpAt P) h
Says Clause.granted-words P i h = Each (GrantedWordAt P) h
-- RULES 21.6: no tile leaves before it has come
Says Clause.after_departure P i h = Each (AfterDepartureAt P) h
Says Clause.lent-flows P i h = Each (LentFlowAt P) h

-- ---- the claim, for flow i

-- RULES 21.1: all of its clauses
abbrev pub Demand3 : Plan → ℕ → History → Type 0
Demand3 P i h = (clause : Clause) → Says clause P i h
