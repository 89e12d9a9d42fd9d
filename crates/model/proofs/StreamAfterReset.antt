-- Streams after a granted reset: one that meets the premise of the least count and is granted exactly the least count since the reset; one that is
-- granted exactly the most; and that the counts over the whole list would not come out. Assumes nothing.
use Prim.Native.Nat.{◌+◌, ◌*◌}
use mathlib.Core.Path.{◌≡◌, refl}
use mathlib.Core.List.{List, ◌∷◌, [], reverse}
use mathlib.Core.Option.{some, none}
use Rattle.model.specs.Tables.{tally}
use Rattle.model.specs.Plan.{Plan, entry, plan_of}
use Rattle.model.specs.Calls.{Call, Event, History, requested, credited, ticked, accepted, refused}
use Rattle.model.specs.History.{origin, changes, marks_of, refusal_at, grants, of_flow, in_frame, granted, refused_in}
use Rattle.model.specs.Scheduler.{run, reference}
use Rattle.model.specs.PlanBytes.{plan2, listing, one_share}
use Rattle.model.proofs.Unfoldings.{calls-compute, counts-compute}
use Rattle.model.proofs.Decidable.{proved}
use Rattle.model.proofs.ClaimDecided.{persistent}
use Rattle.model.proofs.PersistentStream.{ExactlyLeast}

-- ---- a stream that asks until it is refused, in frames 1 and 2

-- F = 2, W = 2, two flows with share 1 and 2 cells
abbrev P : Plan
P = plan_of (plan2 2 2 4 1 2 1 2)

abbrev calls : List Call
calls =
    -- frame 1: slot 3 is granted, and given back before the reset in slot 3
    Call.tick ∷ Call.tick ∷ Call.request 0x24000002 ∷ Call.credit 0 3 ∷ Call.tick ∷ Call.reset
    ∷ Call.request 0x24000403 ∷ Call.request 0x24100003 ∷ Call.request 0x24000803
    -- frame 2: a cell falls free from slot 5 on
    ∷ Call.tick ∷ Call.credit 0 1 ∷ Call.request 0x24000800 ∷ Call.request 0x24000C00 ∷ []

abbrev h : History
h = (run reference P calls).history

-- what the calls come to, oldest first
abbrev events : List Event
events =
    ticked none ∷ ticked none ∷ requested 0x24000002 (accepted 0x24000003) ∷ credited 0 3 (accepted tt) ∷ ticked (some 0)
    ∷ Event.reset (accepted tt)
    ∷ requested 0x24000403 (accepted 0x24000400) ∷ requested 0x24100003 (accepted 0x24100001) ∷ requested 0x24000803 (refused 11)
    ∷ ticked (some 0) ∷ credited 0 1 (accepted tt) ∷ requested 0x24000800 (accepted 0x24000802) ∷ requested 0x24000C00 (refused 11) ∷ []

pub come_to : reverse h ≡ events
unfolding calls-compute
come_to = refl

pub exactly-least : ExactlyLeast P 0 h 1 2
unfolding calls-compute counts-compute persistent
exactly-least = record { is_persistent = proved (persistent P 0 h) tt; frame_changes = refl; granted_slots = refl; least_count = refl }

pub begins-with-frame-1 : origin P h ≡ 1
unfolding calls-compute counts-compute
begins-with-frame-1 = refl

-- in the whole list it is granted three
pub all-grants : tally (of_flow 0) (grants P h) ≡ 3
unfolding calls-compute counts-compute
all-grants = refl

-- ---- three slots of frame 0 with a share of 1, and a reset after each of the first two; then slot 4

abbrev Q : Plan
Q = plan_of one_share

abbrev three_times : History
three_times =
    (run reference Q
    (Call.request 0x24000000 ∷ Call.credit 0 1 ∷ Call.tick ∷ Call.reset ∷ Call.request 0x24000401 ∷ Call.credit 0 2 ∷ Call.tick ∷ Call.reset
    ∷ Call.request 0x24000802 ∷ Call.request 0x24000C02 ∷ [])
    ).history

-- since the last reset it has the most, (W + k) × share
pub exactly-the-most : granted Q three_times 0 ≡ (Q.frames + changes Q three_times) * (entry Q 0).share
unfolding calls-compute counts-compute
exactly-the-most = refl

-- over the whole list it has more: 4 slots where the most would be 2, and 3 of frame 0 where it would be 1
pub more-over-the-list : tally (of_flow 0) (grants Q three_times) ≡ 4
unfolding calls-compute counts-compute
more-over-the-list = refl

pub more-in-a-frame : tally (in_frame Q 0 0) (grants Q three_times) ≡ 3
unfolding calls-compute counts-compute
more-in-a-frame = refl

-- ---- a refusal in frame 0 before the reset, and no request since

abbrev L : Plan
L = plan_of listing

abbrev refused_before : History
refused_before = (run reference L (Call.request 0x24000007 ∷ Call.reset ∷ [])).history

-- over the whole list the flow was refused in each frame, with nothing granted; since the reset it was not
pub refused-over-the-list : tally (in_frame L 0 0) (marks_of (refusal_at L) refused_before) ≡ 1
unfolding calls-compute counts-compute marks_of
refused-over-the-list = refl

pub not-refused-since : refused_in L refused_before 0 0 ≡ 0
unfolding calls-compute counts-compute
not-refused-since = refl

pub none-granted : granted L refused_before 0 ≡ 0
unfolding calls-compute counts-compute
none-granted = refl
