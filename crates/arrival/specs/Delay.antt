-- When a flow that asks for no more than its share in a frame is granted a slot, and which one, whatever its neighbours do. It names no link, only calls
-- and answers. Assumes nothing.
--
-- Two promises, of every list of calls:
-- - prompt: a flow with fewer than its share of grants made in this frame is granted its next request, if that carries its number, names a tile that is
--   due before the newest frame, and has room in the newest frame and later. Nothing is asked of its past. A request that is `Ready`, as the least count
--   asks, is one of these, and so is one that is timely (`ready-timely`, `timely-fits`).
-- - soon: the grants of a flow that is modest fall in the frame in which the tile is due or in the next one, fewer than 2 × F slots after it, however
--   many frames the window has.
-- Both count since the last granted reset, as the most and the least do.
--
-- Their limits:
-- - A flow with a request that is not timely is modest only after the next granted reset: such a request may move its frame on to the newest, where it
--   stays as long as the flow asks for its share in each frame (`stays-late`).
-- - Which slot of the frame is granted is not said, nor that slots come in the order of the requests: BooksInOrder.antt and SharesOfCells.antt say when.
-- - Room is a premise. EnoughCells.antt says how many cells give it, and SeveralLinks.antt what follows over several links.
-- - That a credit is taken, so that a cell falls free, is said in AcceptedCredits.antt.
use Rattle.std.specs.Prelude.{ℕ, ◌+◌, ◌-◌, ◌*◌, ◌≤◌, ◌<◌, ◌≡◌, List, ◌∷◌, [], true, cond}
use Rattle.model.specs.Tables.{tally}
use Rattle.model.specs.Word.{flow_of, quantum_of, departure_of}
use Rattle.model.specs.Plan.{Plan, flow_count, entry, plan_of, refusal}
use Rattle.model.specs.Calls.{Call, Grant, Event, History, requested, credited, ticked, lent, accepted, refused}
use Rattle.model.specs.History.{ticks, slot_after, frame_of, well_formed, has_come, Mark, marks_since, in_frame, granted_up_to, lent_up_to, credited_up_to}
use Rattle.model.specs.History.{expected_number}
use Rattle.model.specs.Claim.{Each, EachSince, AtRequest, AtGrant, ReadyAt}
use Rattle.model.specs.Scheduler.{Scheduler, run}

-- ---- when a tile is due

-- RULES 22.1: the frame of the current slot, and the newest of the window
abbrev pub current_frame : Plan → History → ℕ
current_frame P h = frame_of P (ticks h)

abbrev pub newest_frame : Plan → History → ℕ
newest_frame P h = current_frame P h + P.frames - 1

-- RULES 22.2: the slot in which the tile of word w is due, after h: the current one where the tile has come, else that of its departure.
unfoldable pub due_slot : Plan → (w : ℕ) → History → ℕ
due_slot P w h = cond (has_come P (ticks h) (departure_of w)) (ticks h) (slot_after P (ticks h) (departure_of w))

abbrev pub due_frame : Plan → (w : ℕ) → History → ℕ
due_frame P w h = frame_of P (due_slot P w h)

-- ---- grants, by the slot in which they were made and by that in which their tiles are due

-- the mark of a grant, with a slot that goes by the asked word and what was before it
abbrev pub grant_by : (slot : (w : ℕ) → History → ℕ) → Event → History → List Mark
grant_by slot (requested w (accepted v)) h = record { flow = flow_of w; slot = slot w h } ∷ []
grant_by slot (requested w (refused r)) h = []
grant_by slot (credited i p a) h = []
grant_by slot (ticked x) h = []
grant_by slot (lent m a) h = []
grant_by slot (Event.reset a) h = []

-- since the last granted reset
unfoldable pub made_since : History → List Mark
unfolding marks_since
made_since h = marks_since (grant_by (λ w h. ticks h)) h

unfoldable pub due_since : Plan → History → List Mark
unfolding marks_since
due_since P h = marks_since (grant_by (due_slot P)) h

-- flow i's grants that were made in frame f, and those whose tiles are due in it
abbrev pub made_in : Plan → History → (i f : ℕ) → ℕ
made_in P h i f = tally (in_frame P i f) (made_since h)

abbrev pub due_in : Plan → History → (i f : ℕ) → ℕ
due_in P h i f = tally (in_frame P i f) (due_since P h)

-- ---- a request that can be served

-- RULES 22.2: after h, flow i holds fewer than its cells in every slot from slot s on
abbrev pub RoomFrom : Plan → (i s : ℕ) → History → Type 0
RoomFrom P i s h = (r : ℕ) → s ≤ r → granted_up_to P h i r + lent_up_to h i r < credited_up_to P h i r + (entry P i).cells

-- the first slot of the frame after that of slot s
abbrev pub next_frame_of : Plan → ℕ → ℕ
next_frame_of P s = (frame_of P s + 1) * P.slots

-- Flow i has a cell free in every slot from slot s on; its word carries the expected number; and the tile is due before the newest frame.
pub record TimelyFrom (s : ℕ) (P : Plan) (i w : ℕ) (h : History) : Type 0 where
  pub room : RoomFrom P i s h
  pub number : quantum_of w ≡ expected_number P h i
  pub in_time : due_frame P w h < newest_frame P h

-- RULES 22.2: so from the frame after the due one on, which soon asks; and from the newest frame on, which is less (`timely-fits`) and all that
-- prompt asks
abbrev pub Timely : Plan → (i w : ℕ) → History → Type 0
Timely P i w h = TimelyFrom (next_frame_of P (due_slot P w h)) P i w h

abbrev pub FitsNewest : Plan → (i w : ℕ) → History → Type 0
FitsNewest P i w h = TimelyFrom (newest_frame P h * P.slots) P i w h

-- Q holds of the asked word and its answer, where the event is a request.
abbrev pub AtAnswer : (ℕ → Grant → History → Type 0) → Event → History → Type 0
AtAnswer Q (requested w a) h = Q w a h
AtAnswer Q (credited j p a) h = Unit {0}
AtAnswer Q (ticked x) h = Unit {0}
AtAnswer Q (lent m a) h = Unit {0}
AtAnswer Q (Event.reset a) h = Unit {0}

-- ---- prompt

abbrev pub IsGranted : Grant → Type 0
IsGranted (accepted v) = Unit {0}
IsGranted (refused r) = ⊥

-- RULES 22.3: a well-formed request that is as Q says is granted, if fewer than the flow's share, and `more`, of its grants were made in this frame.
abbrev pub PromptAt : (Q : Plan → (i w : ℕ) → History → Type 0) (more : ℕ) → Plan → Event → History → Type 0
PromptAt Q more P =
    AtAnswer (λ w a h. well_formed P w ≡ true → Q P (flow_of w) w h → made_in P h (flow_of w) (current_frame P h) < (entry P (flow_of w)).share + more → IsGranted a)

-- so of each request of a list of calls
abbrev pub PromptOn : (Q : Plan → (i w : ℕ) → History → Type 0) (more : ℕ) → Plan → History → Type 0
PromptOn Q more P = Each (PromptAt Q more P)

-- of a scheduler, for the bytes of every accepted plan
abbrev pub PromptBy : (Q : Plan → (i w : ℕ) → History → Type 0) (more : ℕ) → Scheduler → Type 0
PromptBy Q more c = (bytes : List ℕ) → refusal bytes ≡ 0 → (calls : List Call) → PromptOn Q more (plan_of bytes) (run c (plan_of bytes) calls).history

-- RULES 22.3: that the reference scheduler is prompt is `prompt`, in proofs/Prompt.antt.
abbrev pub Prompt : Scheduler → Type 0
Prompt = PromptBy FitsNewest 0

-- ---- soon

-- Since the last granted reset no grant of flow i is due in a later frame than the tile of word w is: due frames don't go back.
abbrev pub DueInOrder : Plan → (i w : ℕ) → History → Type 0
DueInOrder P i w h = (f : ℕ) → due_frame P w h < f → due_in P h i f ≡ 0

pub record TimelyInOrder (P : Plan) (i w : ℕ) (h : History) : Type 0 where
  pub timely : Timely P i w h
  pub in_order : DueInOrder P i w h

-- Q holds of flow i's well-formed request
abbrev pub AsksAt : (Q : Plan → (i w : ℕ) → History → Type 0) → Plan → ℕ → Event → History → Type 0
AsksAt Q P i = AtRequest (λ w h. well_formed P w ≡ true → flow_of w ≡ i → Q P i w h)

-- RULES 22.4: since the last granted reset each request of flow i was as Q says, and no more than its share, and `more`, of its grants are due in any
-- one frame.
pub record Modest (Q : Plan → (i w : ℕ) → History → Type 0) (more : ℕ) (P : Plan) (i : ℕ) (h : History) : Type 0 where
  pub asks : EachSince (AsksAt Q P i) h
  pub within_share : (f : ℕ) → due_in P h i f ≤ (entry P i).share + more

-- RULES 22.5: the slot s that is granted to word w after h lies in the frame in which the tile is due or in the next one.
pub record InTime (P : Plan) (w s : ℕ) (h : History) : Type 0 where
  pub not_before : due_slot P w h < s
  pub due_or_next : frame_of P s ≤ due_frame P w h + 1
  -- so it comes fewer than two frames after the tile is due
  pub within_two_frames : s < due_slot P w h + 2 * P.slots

-- RULES 22.5: a request is granted in time, unless flow i's whole share is due already in the frame in which its tile is.
abbrev pub ServedInTime : Plan → ℕ → (w : ℕ) → Grant → History → Type 0
ServedInTime P i w (accepted v) h = InTime P w (slot_after P (ticks h) (departure_of v)) h
ServedInTime P i w (refused r) h = (entry P i).share ≤ due_in P h i (due_frame P w h)

abbrev pub ServedAt : Plan → ℕ → Event → History → Type 0
ServedAt P i = AtAnswer (λ w a h. well_formed P w ≡ true → flow_of w ≡ i → ServedInTime P i w a h)

abbrev pub SoonOn : (Q : Plan → (i w : ℕ) → History → Type 0) (more : ℕ) → Plan → ℕ → History → Type 0
SoonOn Q more P i h = Modest Q more P i h → EachSince (ServedAt P i) h

-- of a scheduler, for the bytes of every accepted plan
abbrev pub SoonBy : (Q : Plan → (i w : ℕ) → History → Type 0) (more : ℕ) → Scheduler → Type 0
SoonBy Q more c =
    (bytes : List ℕ) → refusal bytes ≡ 0 → (calls : List Call) (i : ℕ) → i < flow_count (plan_of bytes)
    → SoonOn Q more (plan_of bytes) i (run c (plan_of bytes) calls).history

-- RULES 22.5: a word may run ahead of its tile; where each tile has come, it is due in the slot of its request, and this is all that is said of those
-- too. That the reference scheduler keeps it is `soon-ahead`, in proofs/Soon.antt.
abbrev pub SoonAhead : Scheduler → Type 0
SoonAhead = SoonBy TimelyInOrder 0

-- ---- soon, where the flow asks on arrival

-- Since the last granted reset each request of flow i was ready, and no more than its share of its grants were made in any one frame.
pub record ModestOnArrival (P : Plan) (i : ℕ) (h : History) : Type 0 where
  pub ready_at_each_request : EachSince (ReadyAt P i) h
  pub within_share : (f : ℕ) → made_in P h i f ≤ (entry P i).share

-- The slot s that is granted after h lies in the current frame or in the next one.
pub record GrantedSoon (P : Plan) (s : ℕ) (h : History) : Type 0 where
  pub this_or_next : frame_of P s ≤ current_frame P h + 1
  pub within_two_frames : s < ticks h + 2 * P.slots

abbrev pub GrantedSoonAt : Plan → ℕ → Event → History → Type 0
GrantedSoonAt P i = AtGrant (λ w v h. flow_of w ≡ i → GrantedSoon P (slot_after P (ticks h) (departure_of v)) h)

abbrev pub SoonOnArrivalOn : Plan → ℕ → History → Type 0
SoonOnArrivalOn P i h = ModestOnArrival P i h → EachSince (GrantedSoonAt P i) h

-- RULES 22.5: it asks more than `SoonAhead` does of a flow whose tiles have come: room from the current slot on at each request, as the least count
-- asks, where `SoonAhead` asks for room from the next frame on. That the reference scheduler keeps it is `soon`, in proofs/SoonOnArrival.antt. Its requests
-- that are refused are those made after its share in their frame, since it is prompt.
abbrev pub Soon : Scheduler → Type 0
Soon c =
    (bytes : List ℕ) → refusal bytes ≡ 0 → (calls : List Call) (i : ℕ) → i < flow_count (plan_of bytes)
    → SoonOnArrivalOn (plan_of bytes) i (run c (plan_of bytes) calls).history
