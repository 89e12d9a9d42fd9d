-- When a tile comes up on the last of several links, one after the other. It names no link's state, only calls and answers. Assumes nothing.
--
-- A stream is a flow of each board on its way, with no smaller share on the next board than on the one before. Its tiles are numbered by its grants,
-- from 0, on each board. The boards tick in step, F and W are the same on each, and no reset is granted. On each board after the first the stream
-- asks for its tiles in order, each with the slot in which it comes up on the board before as its departure, at any time from that grant on until it
-- comes up there, and not while that slot is in the newest frame. Where each request has its number, and room from the frame after that slot's on:
-- - every request on the later boards is granted;
-- - a tile that comes up on the first board in frame f comes up on board m in frame f + m - 1 at the latest;
-- - if the stream is modest on the first board, each request there is granted, unless the whole share is due already in the frame of its tile, and a tile
--   that is due there in frame a comes up on board m in frame a + m at the latest, so fewer than (m + 1) × F slots after it is due.
-- A link adds a frame, and not two, because no more than the share of a stream is due in a frame of the next link.
use Rattle.std.specs.Prelude.{ℕ, ◌+◌, ◌*◌, ◌%◌, ◌≤◌, ◌<◌, ◌≡◌, List, ◌∷◌, [], true, cond, eqb, length}
use Rattle.model.specs.Tables.{tally}
use Rattle.model.specs.Word.{flow_of, quantum_of, departure_of}
use Rattle.model.specs.Plan.{Plan, positions, flow_count, entry, plan_of, refusal}
use Rattle.model.specs.Calls.{Call, TickAnswer, Event, History, requested, credited, ticked, lent}
use Rattle.model.specs.History.{ticks, frame_of, well_formed, is_granted_reset, Mark, marks_of, grants, of_flow, granted_in_all, expected_number}
use Rattle.model.specs.Claim.{Each, AtRequest}
use Rattle.model.specs.Scheduler.{Scheduler, run}
use Rattle.model.specs.TwoHops.{InStep}
use Rattle.arrival.specs.Delay.{newest_frame, due_slot, grant_by, RoomFrom, next_frame_of, AtAnswer, IsGranted, TimelyInOrder, Modest, ServedAt}

-- ---- a stream's tiles on one board

-- the slots of flow i's marks
unfoldable pub slots_of : ℕ → List Mark → List ℕ
slots_of i [] = []
slots_of i (m ∷ ms) = cond (of_flow i m) (m.slot ∷ slots_of i ms) (slots_of i ms)

-- the slots in which flow i's tiles come up, and those in which they are due: the newest grant first
abbrev pub sent_slots : Plan → History → ℕ → List ℕ
sent_slots P h i = slots_of i (grants P h)

unfoldable pub dues : Plan → History → List Mark
unfolding marks_of
dues P h = marks_of (grant_by (due_slot P)) h

abbrev pub due_slots : Plan → History → ℕ → List ℕ
due_slots P h i = slots_of i (dues P h)

-- the slot of tile n, counted from the oldest
unfoldable pub tile : ℕ → List ℕ → ℕ
tile n [] = 0
tile n (s ∷ older) = cond (eqb n (length older)) s (tile n older)

-- ---- a stream from one board to the next

-- an event of one board alone
abbrev pub Alone : Event → Type 0
Alone (requested w a) = Unit {0}
Alone (credited k p a) = Unit {0}
Alone (ticked x) = ⊥
Alone (lent m a) = Unit {0}
Alone (Event.reset a) = Unit {0}

-- flow i on a board with plan P, flow j on the next one with plan Q
module _ (P Q : Plan) (i j : ℕ) where
  -- the number of the tile that flow j asks for next on the second board, and the slot in which it comes up on the first
  abbrev pub next_tile : History → ℕ
  next_tile h₂ = granted_in_all Q h₂ j

  abbrev pub next_slot : (h₁ h₂ : History) → ℕ
  next_slot h₁ h₂ = tile (next_tile h₂) (sent_slots P h₁ i)

  -- After h₁ and h₂ word w names it, and its slot has not gone by.
  pub record ForNext (h₁ : History) (w : ℕ) (h₂ : History) : Type 0 where
    pub sent : next_tile h₂ < length (sent_slots P h₁ i)
    pub departs : departure_of w ≡ next_slot h₁ h₂ % positions Q
    pub not_late : ticks h₂ ≤ next_slot h₁ h₂

  -- it asks for it on the second board
  pub record AsksForNext (h₁ : History) (w : ℕ) (h₂ : History) : Type 0 where
    pub for_next : ForNext h₁ w h₂
    pub in_time : frame_of Q (next_slot h₁ h₂) < newest_frame Q h₂
    pub room : RoomFrom Q j (next_frame_of Q (next_slot h₁ h₂)) h₂
    pub number : quantum_of w ≡ expected_number Q h₂ j

  -- what is asked of flow j's request with word w after h₂, where the first board's events are h₁; so of its well-formed requests
  abbrev pub Asking : Type 1
  Asking = (h₁ : History) (w : ℕ) (h₂ : History) → Type 0

  abbrev pub AskedAt : Asking → (h₁ : History) → Event → History → Type 0
  AskedAt A h₁ = AtRequest (λ w h₂. well_formed Q w ≡ true → flow_of w ≡ j → A h₁ w h₂)

  -- The two boards tick in step, and on the second flow j asks as A says. As in a history, the newest event is first.
  pub data Together (A : Asking) : (h₁ h₂ : History) → Type 0 where
    start : Together A [] []
    both_tick : {h₁ h₂ : History} {x₁ x₂ : TickAnswer} → Together A h₁ h₂ → Together A (ticked x₁ ∷ h₁) (ticked x₂ ∷ h₂)
    first_alone : {h₁ h₂ : History} (e : Event) → Alone e → Together A h₁ h₂ → Together A (e ∷ h₁) h₂
    second_alone : {h₁ h₂ : History} (e : Event) → Alone e → AskedAt A h₁ e h₂ → Together A h₁ h₂ → Together A h₁ (e ∷ h₂)

-- ---- a stream's way over several boards

-- some calls on scheduler c from plan P come to the events h
pub record Ran (c : Scheduler) (P : Plan) (h : History) : Type 0 where
  pub calls : List Call
  pub is : (run c P calls).history ≡ h

-- RULES 22.6: the events of a list of calls on scheduler c from an accepted plan, with no reset granted; and the flow that is the stream
pub record Board (c : Scheduler) : Type 0 where
  pub bytes : List ℕ
  pub passes : refusal bytes ≡ 0
  pub events : History
  pub ran : Ran c (plan_of bytes) events
  pub no_reset : tally is_granted_reset events ≡ 0
  pub stream : ℕ
  pub known : stream < flow_count (plan_of bytes)

abbrev pub plan_on : {c : Scheduler} → Board c → Plan
plan_on b = plan_of b.bytes

abbrev pub sent_on : {c : Scheduler} → Board c → List ℕ
sent_on b = sent_slots (plan_on b) b.events b.stream

abbrev pub due_on : {c : Scheduler} → Board c → List ℕ
due_on b = due_slots (plan_on b) b.events b.stream

-- RULES 22.6: b is the next board after a
pub record Joined {c : Scheduler} (a b : Board c) : Type 0 where
  pub in_step : InStep (plan_on a) (plan_on b)
  pub share_kept : (entry (plan_on a) a.stream).share ≤ (entry (plan_on b) b.stream).share
  pub together :
      Together (plan_on a) (plan_on b) a.stream b.stream (AsksForNext (plan_on a) (plan_on b) a.stream b.stream) a.events b.events

-- RULES 22.6: a stream's way, from a board on
abbrev pub Way : {c : Scheduler} → Board c → List (Board c) → Type 0
Way a [] = Unit {0}
Way a (b ∷ rest) = Joined a b × Way b rest

-- ---- what follows

-- RULES 22.7: each of the stream's tiles comes up on board b at the latest k frames after the frame of its slot in `from`, a slot of a board with
-- plan P for each tile.
pub record Within {c : Scheduler} (k : ℕ) (P : Plan) (from : List ℕ) (b : Board c) : Type 0 where
  pub frames_later : (n : ℕ) → n < length (sent_on b) → frame_of (plan_on b) (tile n (sent_on b)) ≤ frame_of P (tile n from) + k
  pub slots_later : (n : ℕ) → n < length (sent_on b) → tile n (sent_on b) < tile n from + (k + 1) * (plan_on b).slots

-- so of boards one after the other, with a frame more on each
abbrev pub EachWithin : {c : Scheduler} → (k : ℕ) (P : Plan) (from : List ℕ) → List (Board c) → Type 0
EachWithin k P from [] = Unit {0}
EachWithin k P from (b ∷ rest) = Within k P from b × EachWithin (k + 1) P from rest

-- every request of the stream on board b is granted; and so on each of several boards
abbrev pub AllGranted : {c : Scheduler} → Board c → Type 0
AllGranted b = Each (AtAnswer (λ w x h. well_formed (plan_on b) w ≡ true → flow_of w ≡ b.stream → IsGranted x)) b.events

abbrev pub EachGranted : {c : Scheduler} → List (Board c) → Type 0
EachGranted [] = Unit {0}
EachGranted (b ∷ rest) = AllGranted b × EachGranted rest

-- RULES 22.7: the stream is on time on its way from board a; M says that it is modest there, and S how its requests are then served there.
pub record OnTime {c : Scheduler} (M S : Type 0) (a : Board c) (rest : List (Board c)) : Type 0 where
  pub granted : EachGranted rest
  pub served : M → S
  -- a link adds a frame to the one in which a tile comes up on the first, whatever the stream does there
  pub from_first : EachWithin 1 (plan_on a) (sent_on a) rest
  -- and to the one in which it is due on the first
  pub from_due : M → EachWithin 1 (plan_on a) (due_on a) (a ∷ rest)

-- RULES 22.7: each request on the first board is granted in time, unless the whole share is due already in the frame in which its tile is. That the
-- reference scheduler keeps it is `over-links`, in proofs/SeveralLinks.antt.
abbrev pub OverLinks : Scheduler → Type 0
OverLinks c =
    (a : Board c) (rest : List (Board c)) → Way a rest
    → OnTime (Modest TimelyInOrder 0 (plan_on a) a.stream a.events) (Each (ServedAt (plan_on a) a.stream) a.events) a rest
