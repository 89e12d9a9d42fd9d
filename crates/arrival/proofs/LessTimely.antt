-- What each premise of `Prompt` and of `SoonAhead` is for: without it, or with one grant more than the share, the reference scheduler does not keep them. And
-- their bound is attained. Each by a short list of calls. Assumes nothing.
use mathlib.Core.Path.{◌≡◌, refl}
use mathlib.Core.List.{◌∷◌, [], reverse}
use mathlib.Core.Option.{some, none}
use native.Mathlib.Omega.{arith}
use lib.Dec.{lit<}
use Rattle.model.specs.Plan.{plan_of}
use Rattle.model.specs.Calls.{Call, History, requested, ticked, accepted, refused}
use Rattle.model.specs.OtherPremises.{Both, Come, Numbered}
use Rattle.model.specs.LessAsked.{HasRoom}
use Rattle.model.specs.Scheduler.{run, reference}
use Rattle.model.specs.PlanBytes.{plan1, plan2, listing, single, one_cell}
use Rattle.arrival.specs.Delay.{Timely, FitsNewest, PromptBy, SoonBy, ModestOnArrival}
use Rattle.arrival.specs.LessTimely.{AllTimely, TimelyButRoom, TimelyButNumber, TimelyButTime, TimelyButOrder}
use Rattle.model.proofs.Decidable.{proved, refuted}
use Rattle.model.proofs.OtherPremises.{come, numbered, both}
use Rattle.arrival.proofs.DelayDecided.{prompt-on, room, in_time, ordered, timely, fits-newest, modest, modest-on-arrival, delays-compute}

-- ---- prompt

-- with its one cell held, a flow that has one of its two grants is refused with 12
pub prompt-not-without-room : PromptBy (Both Come Numbered) 0 reference → ⊥
unfolding delays-compute
prompt-not-without-room x =
    let calls = Call.request 0x24000000 ∷ Call.request 0x24000400 ∷ [] in
    let h = (run reference (plan_of one_cell) calls).history in
    refuted (prompt-on (both come numbered) 0 (plan_of one_cell) h) tt (x one_cell refl calls)

-- F = 2, W = 3, share 2, one cell: slot 1 is granted, and the cell falls free from slot 4 on, the first of the newest frame. The next request fits, though it
-- is not timely, and it is granted slot 4.
abbrev late_room : History
late_room = (run reference (plan_of (plan1 2 3 8 2 1)) (Call.request 0x24000000 ∷ Call.credit 0 4 ∷ [])).history

pub fits-the-newest : FitsNewest (plan_of (plan1 2 3 8 2 1)) 0 0x24000400 late_room
unfolding delays-compute
fits-the-newest = proved (fits-newest (plan_of (plan1 2 3 8 2 1)) 0 0x24000400 late_room) tt

pub not-timely : Timely (plan_of (plan1 2 3 8 2 1)) 0 0x24000400 late_room → ⊥
unfolding delays-compute
not-timely = refuted (timely (plan_of (plan1 2 3 8 2 1)) 0 0x24000400 late_room) tt

-- a tile that is due in the last slot of the newest frame: 20
pub prompt-not-without-time : PromptBy (Both HasRoom Numbered) 0 reference → ⊥
unfolding delays-compute
prompt-not-without-time x =
    let calls = Call.request 0x24000007 ∷ [] in
    let h = (run reference (plan_of listing) calls).history in
    refuted (prompt-on (both room numbered) 0 (plan_of listing) h) tt (x listing refl calls)

-- number 1 on a fresh link: 24
pub prompt-not-without-number : PromptBy (Both HasRoom Come) 0 reference → ⊥
unfolding delays-compute
prompt-not-without-number x =
    let calls = Call.request 0x24000400 ∷ [] in
    let h = (run reference (plan_of listing) calls).history in
    refuted (prompt-on (both room come) 0 (plan_of listing) h) tt (x listing refl calls)

-- F = 1, share 1: slot 1 is granted, and then 11
pub prompt-not-for-more : PromptBy Timely 1 reference → ⊥
unfolding delays-compute
prompt-not-for-more x =
    let calls = Call.request 0x24000000 ∷ Call.request 0x24000400 ∷ [] in
    let h = (run reference (plan_of single) calls).history in
    refuted (prompt-on timely 1 (plan_of single) h) tt (x single refl calls)

-- ---- soon

-- F = 2, W = 3, share 2, one cell: slot 1 is granted, and then 12, which moves the flow to frame 2. A cell falls free from slot 4 on, and slot 4 is
-- granted, of frame 2, where the tile was due in frame 0.
pub soon-not-without-room : SoonBy TimelyButRoom 0 reference → ⊥
unfolding delays-compute
soon-not-without-room soon =
    let bytes = plan1 2 3 8 2 1 in
    let calls = Call.request 0x24000000 ∷ Call.request 0x24000400 ∷ Call.credit 0 4 ∷ Call.request 0x24000400 ∷ [] in
    let h = (run reference (plan_of bytes) calls).history in
    let x = soon bytes refl calls 0 (lit< tt) (proved (modest (both come (both numbered (both in_time ordered))) 0 (plan_of bytes) 0 h) tt) in
    omega (arith, (x.0 refl refl).due_or_next)

-- number 1 on a fresh link is refused, and nothing is due
pub soon-not-without-number : SoonBy TimelyButNumber 0 reference → ⊥
unfolding delays-compute
soon-not-without-number soon =
    let calls = Call.request 0x24000400 ∷ [] in
    let h = (run reference (plan_of listing) calls).history in
    let x = soon listing refl calls 0 (lit< tt) (proved (modest (both room (both in_time ordered)) 0 (plan_of listing) 0 h) tt) in
    omega (arith, x.0 refl refl)

-- a tile that is due in the last slot of the newest frame is refused, and nothing is due
pub soon-not-without-time : SoonBy TimelyButTime 0 reference → ⊥
unfolding delays-compute
soon-not-without-time soon =
    let calls = Call.request 0x24000007 ∷ [] in
    let h = (run reference (plan_of listing) calls).history in
    let x = soon listing refl calls 0 (lit< tt) (proved (modest (both room (both numbered ordered)) 0 (plan_of listing) 0 h) tt) in
    omega (arith, x.0 refl refl)

-- F = 1, W = 5, share 1: a tile that is due in slot 2 is granted slot 3, and then one that has come is granted slot 4
pub soon-not-without-order : SoonBy TimelyButOrder 0 reference → ⊥
unfolding delays-compute
soon-not-without-order soon =
    let bytes = plan1 1 5 8 1 8 in
    let calls = Call.request 0x24000002 ∷ Call.request 0x24000400 ∷ [] in
    let h = (run reference (plan_of bytes) calls).history in
    let x = soon bytes refl calls 0 (lit< tt) (proved (modest (both room (both numbered in_time)) 0 (plan_of bytes) 0 h) tt) in
    omega (arith, (x.0 refl refl).due_or_next)

-- F = 1, W = 3, share 1: two requests in slot 0 are granted slots 1 and 2
pub soon-not-for-more : SoonBy AllTimely 1 reference → ⊥
unfolding delays-compute
soon-not-for-more soon =
    let bytes = plan1 1 3 8 1 8 in
    let calls = Call.request 0x24000000 ∷ Call.request 0x24000400 ∷ [] in
    let h = (run reference (plan_of bytes) calls).history in
    let x = soon bytes refl calls 0 (lit< tt) (proved (modest (both room (both numbered (both in_time ordered))) 1 (plan_of bytes) 0 h) tt) in
    omega (arith, (x.0 refl refl).due_or_next)

-- F = 1, W = 4, share 1: after one request for a tile that is due in the newest frame the flow is granted W - 1 slots late in each slot to come, as long as
-- it asks in each. Only a pause or a granted reset brings it back.
pub stays-late :
    reverse (run reference (plan_of (plan1 1 4 8 1 8)) (Call.request 0x24000003 ∷ Call.request 0x24000000 ∷ Call.tick ∷ Call.request 0x24000401 ∷ Call.tick
    ∷ Call.request 0x24000802 ∷ Call.tick ∷ Call.request 0x24000C03 ∷ [])).history
    ≡ requested 0x24000003 (refused 20) ∷ requested 0x24000000 (accepted 0x24000003) ∷ ticked none ∷ requested 0x24000401 (accepted 0x24000400)
    ∷ ticked none ∷ requested 0x24000802 (accepted 0x24000801) ∷ ticked (some 0) ∷ requested 0x24000C03 (accepted 0x24000C02) ∷ []
unfolding delays-compute
stays-late = refl

-- ---- the bound is attained

-- F = 2, W = 3, two flows with share 1: flow 1 takes slots 1 and 2, and flow 0 is granted slot 3 in slot 0, 2 × F - 1 slots later
abbrev attained : History
attained = (run reference (plan_of (plan2 2 3 8 1 4 1 4)) (Call.request 0x24100000 ∷ Call.request 0x24100400 ∷ Call.request 0x24000000 ∷ [])).history

pub attained-slots :
    reverse attained
    ≡ requested 0x24100000 (accepted 0x24100001) ∷ requested 0x24100400 (accepted 0x24100402) ∷ requested 0x24000000 (accepted 0x24000003) ∷ []
unfolding delays-compute
attained-slots = refl

pub attained-by-a-modest-flow : ModestOnArrival (plan_of (plan2 2 3 8 1 4 1 4)) 0 attained
unfolding delays-compute
attained-by-a-modest-flow = proved (modest-on-arrival (plan_of (plan2 2 3 8 1 4 1 4)) 0 attained) tt
