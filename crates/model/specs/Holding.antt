-- The link's table of holdings against what the list of calls says. RULES 4.4. Assumes nothing.
use Rattle.std.specs.Prelude.{ℕ, ◌+◌, ◌*◌, ◌%◌, ◌≤◌, ◌<◌, ◌≡◌, List}
use Rattle.model.specs.Plan.{Plan, positions, flow_count, plan_of, refusal}
use Rattle.model.specs.Calls.{Call, History}
use Rattle.model.specs.History.{frame_of, ticks, granted_up_to, lent_up_to, credited_up_to}
use Rattle.model.specs.Link.{Link, holding}
use Rattle.model.specs.Scheduler.{reference, run}

-- the first slot of the frame of slot t
abbrev pub frame_start : Plan → ℕ → ℕ
frame_start P t = frame_of P t * P.slots

-- Slot s is one of the window's T slots when slot t is current.
pub record InWindow (P : Plan) (t s : ℕ) : Type 0 where
  pub low : frame_start P t ≤ s
  pub high : s < frame_start P t + positions P

-- RULES 4.4: what is booked and lent up to a slot, and what is credited up to it with what is held there
pub record HoldingIs (P : Plan) (l : Link) (h : History) (i : ℕ) : Type 0 where
  pub at_slot : (s : ℕ) → InWindow P (ticks h) s → granted_up_to P h i s + lent_up_to h i s ≡ credited_up_to P h i s + holding l i (s % positions P)

-- RULES 4.4: the table says so after every list of calls.
abbrev pub TableIsHolding : Type 0
TableIsHolding =
    (bytes : List ℕ) → refusal bytes ≡ 0 → (calls : List Call) (i : ℕ) → i < flow_count (plan_of bytes)
    → HoldingIs (plan_of bytes) (run reference (plan_of bytes) calls).state (run reference (plan_of bytes) calls).history i
