-- Two runs from one plan in which one flow makes the same calls: what its neighbours can't change. RULES 21.11. It names no link, only calls and
-- answers. Assumes nothing.
--
-- Its limits:
-- - It is said of a flow that asks until it is refused with 11, by `AsksUntil11`, in both runs. In frame 0 its requests may be answered otherwise in the
--   one than in the other (`not-from-the-start`), and so its words may carry other numbers from then on.
-- - A scheduler that never gives 11 keeps it, since no flow has such a run on it. Which answers a scheduler gives is not said here.
-- - Which slot of the frame it is, is not said (`other-slots`); nor what the flow holds, and which of its credits are taken.
-- - A list with a reset in it, granted or refused, is aligned with none. A burst is its requests, as in demand 3's list.
use Rattle.std.specs.Prelude.{ℕ, ◌≤◌, ◌<◌, ◌≡◌, List, ◌∷◌, [], cond, eqb}
use Rattle.model.specs.Tables.{tally}
use Rattle.model.specs.Word.{destination_of, flow_of, departure_of}
use Rattle.model.specs.Plan.{Plan, flow_count, plan_of, refusal}
use Rattle.model.specs.Calls.{Call, Grant, CreditAnswer, TickAnswer, Event, History, requested, credited, ticked, lent, accepted, refused}
use Rattle.model.specs.History.{ticks, slot_after, frame_of, changes, Mark, marks_of, in_frame}
use Rattle.model.specs.Claim.{Each, ReadyAt}
use Rattle.model.specs.Scheduler.{Scheduler, run}

-- ---- two runs with the same calls of flow i

-- RULES 21.11: requests that are the same but for their numbers: the other three parts of their words are equal
pub record SameButNumber (w₁ w₂ : ℕ) : Type 0 where
  pub destination : destination_of w₁ ≡ destination_of w₂
  pub flow : flow_of w₁ ≡ flow_of w₂
  pub departure : departure_of w₁ ≡ departure_of w₂

-- RULES 21.11: an event that one run may have by itself, a call of another flow or a lend. Another flow may be one that the plan does not have, and a
-- lend may go to flow i.
abbrev pub Neighbours : ℕ → Event → Type 0
Neighbours i (requested w a) = flow_of w ≡ i → ⊥
Neighbours i (credited j p a) = j ≡ i → ⊥
Neighbours i (ticked x) = ⊥
Neighbours i (lent m a) = Unit {0}
-- a reset stands in neither
Neighbours i (Event.reset a) = ⊥

-- RULES 21.11: the ticks of two runs, and flow i's requests and credits, stand in the same order, whatever their answers are. As in a history, the
-- newest event is first.
pub data Aligned (i : ℕ) : (h₁ h₂ : History) → Type 0 where
  start : Aligned i [] []
  both_tick : {h₁ h₂ : History} {x₁ x₂ : TickAnswer} → Aligned i h₁ h₂ → Aligned i (ticked x₁ ∷ h₁) (ticked x₂ ∷ h₂)
  both_request : {h₁ h₂ : History} {w₁ w₂ : ℕ} {a₁ a₂ : Grant} → flow_of w₁ ≡ i → SameButNumber w₁ w₂
      → Aligned i h₁ h₂ → Aligned i (requested w₁ a₁ ∷ h₁) (requested w₂ a₂ ∷ h₂)
  both_credit : {h₁ h₂ : History} {p : ℕ} {a₁ a₂ : CreditAnswer} → Aligned i h₁ h₂ → Aligned i (credited i p a₁ ∷ h₁) (credited i p a₂ ∷ h₂)
  first_alone : {h₁ h₂ : History} (e : Event) → Neighbours i e → Aligned i h₁ h₂ → Aligned i (e ∷ h₁) h₂
  second_alone : {h₁ h₂ : History} (e : Event) → Neighbours i e → Aligned i h₁ h₂ → Aligned i h₁ (e ∷ h₂)

-- ---- what is asked of each run

-- the slot in which a request is refused with 11
abbrev pub refusal11_at : Event → History → List Mark
refusal11_at (requested w (accepted v)) h = []
refusal11_at (requested w (refused r)) h = cond (eqb r 11) (record { flow = flow_of w; slot = ticks h } ∷ []) []
refusal11_at (credited j p a) h = []
refusal11_at (ticked x) h = []
refusal11_at (lent m a) h = []
refusal11_at (Event.reset a) h = []

-- RULES 21.11: 11 at least once in each frame that is over, from frame 0 on. The frame that is current need not count; if that frame is asked for
-- too, this follows.
abbrev pub Refused11InEachFrame : Plan → ℕ → History → Type 0
Refused11InEachFrame P i h = (f : ℕ) → f < frame_of P (ticks h) → 0 < tally (in_frame P i f) (marks_of refusal11_at h)

-- RULES 21.11: the flow asks until it is refused with 11; and each of its well-formed requests is `Ready`, as the least count asks: a cell free from
-- the current slot on, a tile that has come, and the number that its own run expects.
pub record AsksUntil11 (P : Plan) (i : ℕ) (h : History) : Type 0 where
  pub refused_11_in_each_frame : Refused11InEachFrame P i h
  pub ready_at_each_request : Each (ReadyAt P i) h

-- ---- what follows

-- RULES 21.11: both granted with slots of one frame, or both refused: the one is answered a₁ after h₁, the other a₂ after h₂
abbrev pub SameFrame : Plan → (h₁ : History) (a₁ : Grant) (h₂ : History) (a₂ : Grant) → Type 0
SameFrame P h₁ (accepted v₁) h₂ (accepted v₂) =
    frame_of P (slot_after P (ticks h₁) (departure_of v₁)) ≡ frame_of P (slot_after P (ticks h₂) (departure_of v₂))
SameFrame P h₁ (accepted v₁) h₂ (refused r₂) = ⊥
SameFrame P h₁ (refused r₁) h₂ (accepted v₂) = ⊥
SameFrame P h₁ (refused r₁) h₂ (refused r₂) = Unit {0}

-- so of each request of flow i, well formed or not, that comes after k frame changes or more
abbrev pub SameFrames : Plan → (k : ℕ) {i : ℕ} {h₁ h₂ : History} → Aligned i h₁ h₂ → Type 0
SameFrames P k start = Unit {0}
SameFrames P k (both_tick x) = SameFrames P k x
SameFrames P k (both_request {h₁ = h₁} {h₂ = h₂} {a₁ = a₁} {a₂ = a₂} own same x) = (k ≤ changes P h₁ → SameFrame P h₁ a₁ h₂ a₂) × SameFrames P k x
SameFrames P k (both_credit x) = SameFrames P k x
SameFrames P k (first_alone e other x) = SameFrames P k x
SameFrames P k (second_alone e other x) = SameFrames P k x

-- Two lists of calls on a scheduler, from one plan, and a flow i of it whose calls are aligned. If each run is as Q asks, flow i's requests are answered so,
-- from frame change number k on.
abbrev pub UnmovedOn : Scheduler → Plan → (k : ℕ) → (Q : Plan → ℕ → History → Type 0) → Type 0
UnmovedOn c P k Q =
    (calls₁ calls₂ : List Call) (i : ℕ) → i < flow_count P → (aligned : Aligned i (run c P calls₁).history (run c P calls₂).history)
    → Q P i (run c P calls₁).history → Q P i (run c P calls₂).history → SameFrames P k aligned

-- for the bytes of every accepted plan
abbrev pub UnmovedFrom : Scheduler → (k : ℕ) → (Q : Plan → ℕ → History → Type 0) → Type 0
UnmovedFrom c k Q = (bytes : List ℕ) → refusal bytes ≡ 0 → UnmovedOn c (plan_of bytes) k Q

-- RULES 21.11: each request after the first frame change. That the reference scheduler keeps it is `same-frames`, in proofs/SameFrames.antt.
abbrev pub Unmoved : Scheduler → Type 0
Unmoved c = UnmovedFrom c 1 AsksUntil11
