-- A stream that meets the premise of the least count over two frame changes, beside another flow and with credits taken. It is granted exactly the
-- least count. Assumes nothing.
use Prim.Native.Nat.{ℕ, ◌-◌, ◌+◌, ◌*◌}
use mathlib.Core.Path.{◌≡◌, refl}
use mathlib.Core.List.{List, ◌∷◌, [], reverse}
use mathlib.Core.Option.{some, none}
use Rattle.model.specs.Tables.{tally}
use Rattle.model.specs.Plan.{Plan, entry, plan_of, refusal}
use Rattle.model.specs.Calls.{Call, Event, History, requested, credited, ticked, accepted, refused}
use Rattle.model.specs.History.{changes, credits, of_flow, granted}
use Rattle.model.specs.Claim.{Persistent}
use Rattle.model.specs.Scheduler.{run, reference}
use Rattle.model.specs.PlanBytes.{plan2}
use Rattle.model.proofs.Unfoldings.{plans-compute, calls-compute, counts-compute}
use Rattle.model.proofs.Decidable.{proved}
use Rattle.model.proofs.ClaimDecided.{persistent}

-- Flow i meets the premise of the least count, with k frame changes; and it is granted no more than the least count, which is n.
pub record ExactlyLeast (P : Plan) (i : ℕ) (h : History) (k n : ℕ) : Type 0 where
  pub is_persistent : Persistent P i h
  pub frame_changes : changes P h ≡ k
  pub granted_slots : granted P h i ≡ n
  -- (W - 1 + k) × share
  pub least_count : (P.frames - 1 + changes P h) * (entry P i).share ≡ n

-- F = 2, W = 2, two flows with share 1 and 2 cells
abbrev bytes : List ℕ
bytes = plan2 2 2 4 1 2 1 2

abbrev P : Plan
P = plan_of bytes

pub accepted_plan : refusal bytes ≡ 0
unfolding plans-compute
accepted_plan = refl

abbrev calls : List Call
calls =
    -- frame 0, at its last slot; departure 0 lies before CP
    Call.tick ∷ Call.request 0x24000000 ∷ Call.request 0x24100001 ∷ Call.request 0x24000401
    -- frame 1: a cell falls free from slot 3 on, without which the flow would hold both at its last request
    ∷ Call.tick ∷ Call.credit 0 3 ∷ Call.request 0x24100402 ∷ Call.request 0x24000402 ∷ Call.request 0x24000802
    -- frame 2: a cell falls free from slot 5 on
    ∷ Call.tick ∷ Call.tick ∷ Call.credit 0 1 ∷ Call.request 0x24000800 ∷ Call.request 0x24000C00 ∷ []

abbrev h : History
h = (run reference P calls).history

-- what the calls come to, oldest first
abbrev events : List Event
events =
    ticked none ∷ requested 0x24000000 (accepted 0x24000002) ∷ requested 0x24100001 (accepted 0x24100003) ∷ requested 0x24000401 (refused 11)
    ∷ ticked (some 0) ∷ credited 0 3 (accepted tt) ∷ requested 0x24100402 (accepted 0x24100400) ∷ requested 0x24000402 (accepted 0x24000401)
    ∷ requested 0x24000802 (refused 11) ∷ ticked (some 1) ∷ ticked (some 1) ∷ credited 0 1 (accepted tt)
    ∷ requested 0x24000800 (accepted 0x24000802) ∷ requested 0x24000C00 (refused 11) ∷ []

pub come_to : reverse h ≡ events
unfolding calls-compute
come_to = refl

pub exactly-least : ExactlyLeast P 0 h 2 3
unfolding calls-compute counts-compute persistent
exactly-least = record { is_persistent = proved (persistent P 0 h) tt; frame_changes = refl; granted_slots = refl; least_count = refl }

pub other-flow-books : granted P h 1 ≡ 2
unfolding calls-compute counts-compute
other-flow-books = refl

pub credits-are-accepted : tally (of_flow 0) (credits P h) ≡ 2
unfolding calls-compute counts-compute
credits-are-accepted = refl
