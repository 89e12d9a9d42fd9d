-- What is counted over the events of a list of calls. RULES 21.3, 21.4 and 21.9. It names no link. Assumes nothing.
--
-- Counts are of two families: over the whole list, and since the last granted reset, with which the most and the least begin afresh.
use Rattle.std.specs.Prelude.{ℕ, suc, ◌+◌, ◌/◌, ◌%◌, ◌<◌, List, ◌∷◌, [], ◌++◌, Bool, true, false, ◌&&◌, cond, leb, ltb, eqb}
use Rattle.model.specs.Tables.{ahead, bit, tally}
use Rattle.model.specs.Word.{flow_of, destination_of, departure_of, quantum_numbers}
use Rattle.model.specs.Plan.{Plan, positions, flow_count, entry}
use Rattle.model.specs.Calls.{Event, History, requested, credited, ticked, lent, accepted, refused}

-- ---- slots and frames, numbered on without end

-- RULES 21.3: the number of the current slot is that of the ticks so far
unfoldable pub ticks : History → ℕ
ticks [] = 0
ticks (requested w a ∷ h) = ticks h
ticks (credited i p a ∷ h) = ticks h
ticks (ticked x ∷ h) = suc (ticks h)
ticks (lent m a ∷ h) = ticks h
ticks (Event.reset a ∷ h) = ticks h

-- RULES 21.3: the slot of a position after t ticks, the next one above t that is the position modulo T
unfoldable pub slot_after : Plan → ℕ → ℕ → ℕ
slot_after P t p = suc t + ahead (positions P) (suc t % positions P) p

-- RULES 21.3: the frame of a slot
abbrev pub frame_of : Plan → ℕ → ℕ
frame_of P s = s / P.slots

-- RULES 21.4: the word passes the tests 8, 9 and 10
unfoldable pub well_formed : Plan → ℕ → Bool
well_formed P w =
    ltb (flow_of w) (flow_count P) && eqb (destination_of w) (entry P (flow_of w)).destination && ltb (departure_of w) (positions P)

-- RULES 6.3 and 6.7: after t ticks departure d has gone by, told from positions alone
abbrev pub has_come : Plan → (t d : ℕ) → Bool
has_come P t d = eqb (frame_of P d) (frame_of P t % P.frames) && leb d (t % positions P)

-- ---- since the last granted reset

-- the event is a reset that is granted
abbrev pub is_granted_reset : Event → Bool
is_granted_reset (requested w a) = false
is_granted_reset (credited i p a) = false
is_granted_reset (ticked x) = false
is_granted_reset (lent m a) = false
is_granted_reset (Event.reset (accepted u)) = true
is_granted_reset (Event.reset (refused r)) = false

-- RULES 21.9: the frame of the slot that was current at the last granted reset, and frame 0 where there was none
unfoldable pub origin : Plan → History → ℕ
origin P [] = 0
origin P (e ∷ h) = cond (is_granted_reset e) (frame_of P (ticks h)) (origin P h)

-- RULES 21.3: k, how many ticks brought a new frame
unfoldable pub changes : Plan → History → ℕ
changes P [] = 0
changes P (requested w a ∷ h) = changes P h
changes P (credited i p a ∷ h) = changes P h
changes P (ticked x ∷ h) = bit (eqb (suc (ticks h) % P.slots) 0) + changes P h
changes P (lent m a ∷ h) = changes P h
changes P (Event.reset (accepted u) ∷ h) = 0
changes P (Event.reset (refused r) ∷ h) = changes P h

-- ---- marks

-- a slot of a flow
pub record Mark : Type 0 where
  pub flow : ℕ
  pub slot : ℕ

-- the marks of each event, after what was before it, over the whole list and since the last granted reset
unfoldable pub marks_of : (Event → History → List Mark) → History → List Mark
marks_of f [] = []
marks_of f (e ∷ h) = f e h ++ marks_of f h

unfoldable pub marks_since : (Event → History → List Mark) → History → List Mark
marks_since f [] = []
marks_since f (e ∷ h) = cond (is_granted_reset e) [] (f e h ++ marks_since f h)

-- ---- the mark of a granted slot, a taken credit, a refusal, a lent slot

-- RULES 21.3: the slot of a grant, whose position is the granted word's departure
abbrev pub grant_at : Plan → Event → History → List Mark
grant_at P (requested w (accepted v)) h = record { flow = flow_of w; slot = slot_after P (ticks h) (departure_of v) } ∷ []
grant_at P (requested w (refused r)) h = []
grant_at P (credited i p a) h = []
grant_at P (ticked x) h = []
grant_at P (lent m a) h = []
grant_at P (Event.reset a) h = []

-- RULES 21.3: the slot that a taken credit is dated
abbrev pub credit_at : Plan → Event → History → List Mark
credit_at P (requested w a) h = []
credit_at P (credited i p (accepted u)) h = record { flow = i; slot = slot_after P (ticks h) p } ∷ []
credit_at P (credited i p (refused r)) h = []
credit_at P (ticked x) h = []
credit_at P (lent m a) h = []
credit_at P (Event.reset a) h = []

-- RULES 21.8: the slot in which a well-formed request is refused, the one that was current
abbrev pub refusal_at : Plan → Event → History → List Mark
refusal_at P (requested w (accepted v)) h = []
refusal_at P (requested w (refused r)) h = cond (well_formed P w) (record { flow = flow_of w; slot = ticks h } ∷ []) []
refusal_at P (credited i p a) h = []
refusal_at P (ticked x) h = []
refusal_at P (lent m a) h = []
refusal_at P (Event.reset a) h = []

-- RULES 21.3: the slot that is lent, the current one of a lend that is answered with a flow
abbrev pub lend_at : Event → History → List Mark
lend_at (requested w a) h = []
lend_at (credited i p a) h = []
lend_at (ticked x) h = []
lend_at (lent m (accepted i)) h = record { flow = i; slot = ticks h } ∷ []
lend_at (lent m (refused r)) h = []
lend_at (Event.reset a) h = []

-- ---- over the whole list, newest first

unfoldable pub grants : Plan → History → List Mark
unfolding marks_of
grants P h = marks_of (grant_at P) h

unfoldable pub credits : Plan → History → List Mark
unfolding marks_of
credits P h = marks_of (credit_at P) h

unfoldable pub lends : History → List Mark
unfolding marks_of
lends h = marks_of lend_at h

-- ---- since the last granted reset

unfoldable pub grants_since : Plan → History → List Mark
unfolding marks_since
grants_since P h = marks_since (grant_at P) h

unfoldable pub refusals_since : Plan → History → List Mark
unfolding marks_since
refusals_since P h = marks_since (refusal_at P) h

-- ---- tests of a mark

abbrev pub of_flow : ℕ → Mark → Bool
of_flow i m = eqb m.flow i

abbrev pub at_slot : ℕ → Mark → Bool
at_slot s m = eqb m.slot s

-- flow i's, of the slots of frame f
abbrev pub in_frame : Plan → ℕ → ℕ → Mark → Bool
in_frame P i f m = of_flow i m && eqb (frame_of P m.slot) f

-- flow i's, slot s and those before it
abbrev pub up_to : ℕ → ℕ → Mark → Bool
up_to i s m = of_flow i m && leb m.slot s

-- ---- counts since the last granted reset, for the most and the least that is granted

-- flow i's granted slots, all of them and those of frame f, since the last granted reset
abbrev pub granted : Plan → History → ℕ → ℕ
granted P h i = tally (of_flow i) (grants_since P h)

abbrev pub granted_in : Plan → History → ℕ → ℕ → ℕ
granted_in P h i f = tally (in_frame P i f) (grants_since P h)

-- its well-formed requests that were refused in frame f
abbrev pub refused_in : Plan → History → ℕ → ℕ → ℕ
refused_in P h i f = tally (in_frame P i f) (refusals_since P h)

-- ---- counts over the whole list, for what is held and who owns a slot

-- RULES 21.4: flow i's granted slots up to slot s, its lent slots up to s, and its taken credits for slots up to s
abbrev pub granted_up_to : Plan → History → ℕ → ℕ → ℕ
granted_up_to P h i s = tally (up_to i s) (grants P h)

abbrev pub lent_up_to : History → ℕ → ℕ → ℕ
lent_up_to h i s = tally (up_to i s) (lends h)

abbrev pub credited_up_to : Plan → History → ℕ → ℕ → ℕ
credited_up_to P h i s = tally (up_to i s) (credits P h)

-- flow i's grants, those before a reset too
abbrev pub granted_in_all : Plan → History → ℕ → ℕ
granted_in_all P h i = tally (of_flow i) (grants P h)

-- RULES 5.3: the number of flow i's next word is the count of its grants, modulo 1,024
abbrev pub expected_number : Plan → History → ℕ → ℕ
expected_number P h i = granted_in_all P h i % quantum_numbers

-- the grants and the lends of slot s, of all flows
abbrev pub owners_of : Plan → History → ℕ → ℕ
owners_of P h s = tally (at_slot s) (grants P h) + tally (at_slot s) (lends h)

-- Flow i was granted slot s.
abbrev pub WasGranted : Plan → History → ℕ → ℕ → Type 0
WasGranted P h i s = 0 < tally (λ m. of_flow i m && at_slot s m) (grants P h)
