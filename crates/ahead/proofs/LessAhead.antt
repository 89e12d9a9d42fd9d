-- What each premise on two runs is for, the second of which sends tiles ahead: without it bookings move. And two runs that meet them. Assumes nothing.
use Prim.Native.Nat.{ℕ, ◌≤◌}
use mathlib.Core.Path.{◌≡◌, refl, ap}
use mathlib.Core.List.{List, ◌∷◌, [], ◌++◌, take}
use mathlib.Core.Bool.{Bool, true, false, cond}
use native.Mathlib.Omega.{arith}
use lib.Dec.{lit≤, lit<, eqb}
use Rattle.model.specs.Tables.{tally}
use Rattle.model.specs.Plan.{Plan, plan_of}
use Rattle.model.specs.Calls.{Call, Event, History, requested, refused}
use Rattle.model.specs.History.{at_slot}
use Rattle.model.specs.LessAsked.{HasRoom}
use Rattle.model.specs.Scheduler.{run, reference}
use Rattle.model.specs.PlanBytes.{plan1, plan2, listing}
use Rattle.arrival.specs.BooksInOrder.{InTurn}
use Rattle.ahead.specs.AheadRuns.{WithAhead, start, both_tick, both_request, both_credit, both_reset, sent_ahead, latest, BookedAlike}
use Rattle.ahead.specs.Sendings.{leaves_in, tiles, EachReady, SentWell, sending_of}
use Rattle.arrival.specs.Delay.{due_slot}
use Rattle.ahead.specs.LessAhead.{BookedAlikeIf, ButOrder, ButResets, ButCredits, DueInTurn, TurnButBooked, TurnButRoom, TurnButDue, TurnButCredits}
use Rattle.ahead.specs.LessAhead.{AheadButReady, AheadButRoom, RoomIf, RoomButReady, RoomButCredits, BooksInOrderBy}
use Rattle.model.proofs.Unfoldings.{plans-compute, calls-compute, counts-compute}
use Rattle.model.proofs.Demand3.{meets}
use Rattle.ahead.proofs.AheadRuns.{nobody-moves}
use Rattle.ahead.proofs.Sendings.{sends-well}
use Rattle.model.proofs.Decidable.{proved}
use Rattle.arrival.proofs.DelayDecided.{room}
use Rattle.ahead.proofs.AheadDecided.{due-in-turn, in-turn, all-ask, ask-since, zero-alone, ahead-computes}

abbrev pub after : List ℕ → List Call → History
after bytes calls = (run reference (plan_of bytes) calls).history

-- ---- without the order of grants, and without room

-- F = 8, W = 2, one flow with share 3 and one cell
abbrev long_frames : List ℕ
long_frames = plan1 8 2 8 3 1

-- The flow books slot 1, and slot 5 when its cell falls free in slot 5. Then the cell falls free in slot 2. In slot 2 it sends the tile of slot 5 ahead, and
-- asks once more: without the sending ahead it is granted slot 3; with it slots 3 and 4 are full, and it is slot 6.
abbrev order : List Call → List Call
order sent =
    Call.request 0x24000000 ∷ Call.credit 0 5 ∷ Call.request 0x24000400 ∷ Call.credit 0 2 ∷ Call.tick ∷ Call.tick ∷ (sent ++ Call.request 0x24000800 ∷ [])

abbrev order₁ : List Call
order₁ = order []

abbrev order₂ : List Call
order₂ = order (Call.lend 1 ∷ Call.credit 0 5 ∷ [])

unfoldable no-order : WithAhead (after long_frames order₁) (after long_frames order₂)
unfolding calls-compute
no-order =
    both_request 0x24000800 (sent_ahead 0 5 (both_tick (both_tick (both_credit 0 2 (both_request 0x24000400 (both_credit 0 5 (both_request 0x24000000 start)))))))

slot-3-moves : BookedAlike (plan_of long_frames) no-order → ⊥
unfolding calls-compute counts-compute no-order
slot-3-moves x = let z = ap (tally (at_slot 3)) x.same_grants in omega arith

pub not-without-order : BookedAlikeIf ButOrder reference → ⊥
unfolding plans-compute calls-compute counts-compute no-order
not-without-order alike = slot-3-moves (alike long_frames refl order₁ order₂ no-order (tt, (tt, (tt, tt))))

-- It has no room when it asks for slot 5. Its tiles are due in order; and the tile of slot 5 is ready.
pub turn-not-without-room : BookedAlikeIf TurnButRoom reference → ⊥
unfolding ahead-computes no-order
turn-not-without-room alike =
    let P = plan_of long_frames in
    let due = zero-alone DueInTurn P no-order (after long_frames order₁) 5 (λ i. refl) (proved (all-ask due-in-turn P 0 (after long_frames order₁)) tt) in
    slot-3-moves (alike long_frames refl order₁ order₂ no-order ((lit< tt, tt), (due, (tt, (tt, tt)))))

pub ahead-not-without-room : BookedAlikeIf AheadButRoom reference → ⊥
unfolding ahead-computes no-order
ahead-not-without-room alike = slot-3-moves (alike long_frames refl order₁ order₂ no-order ((lit< tt, tt), (tt, (tt, tt))))

-- and it does not book in order
pub books-not-without-room : BooksInOrderBy DueInTurn reference → ⊥
unfolding ahead-computes
books-not-without-room books =
    let P = plan_of long_frames in
    let x = books long_frames refl order₁ 0 (lit< tt) (proved (ask-since due-in-turn P 0 (after long_frames order₁)) tt) in
    let z = x.0 refl 5 (lit< tt) in
    omega arith

-- ---- without slots that are booked

-- In slot 0 the flow sends slot 5 ahead, which is nobody's. Then it asks: slot 1, and slot 5 where it holds its cell up to there.
abbrev unbooked₁ : List Call
unbooked₁ = Call.request 0x24000000 ∷ []

abbrev unbooked₂ : List Call
unbooked₂ = Call.lend 1 ∷ Call.credit 0 5 ∷ Call.request 0x24000000 ∷ []

unfoldable not_booked : WithAhead (after long_frames unbooked₁) (after long_frames unbooked₂)
unfolding calls-compute
not_booked = both_request 0x24000000 (sent_ahead 0 5 start)

slot-1-moves : BookedAlike (plan_of long_frames) not_booked → ⊥
unfolding calls-compute counts-compute not_booked
slot-1-moves x = let z = ap (tally (at_slot 1)) x.same_grants in omega arith

pub turn-not-without-booked : BookedAlikeIf TurnButBooked reference → ⊥
unfolding ahead-computes not_booked
turn-not-without-booked alike =
    let P = plan_of long_frames in
    let turns = zero-alone InTurn P not_booked (after long_frames unbooked₁) 5 (λ i. refl) (proved (all-ask in-turn P 0 (after long_frames unbooked₁)) tt) in
    slot-1-moves (alike long_frames refl unbooked₁ unbooked₂ not_booked (turns, tt))

pub ahead-not-without-ready : BookedAlikeIf AheadButReady reference → ⊥
unfolding ahead-computes not_booked
ahead-not-without-ready alike =
    let P = plan_of long_frames in
    let rooms = zero-alone HasRoom P not_booked (after long_frames unbooked₁) 5 (λ i. refl) (proved (all-ask room P 0 (after long_frames unbooked₁)) tt) in
    slot-1-moves (alike long_frames refl unbooked₁ unbooked₂ not_booked (rooms, tt))

-- ---- without tiles that are due in order

-- The same with two cells. Flow 0 books slot 1, whose cell falls free in slot 5, and slot 5 for a tile that comes in slot 4. It sends that ahead in slot 0,
-- though it has not come, and asks for one that has: slot 2, and slot 6 where slots 2 to 4 are full.
abbrev pub two_cells : List ℕ
two_cells = plan1 8 2 8 4 2

abbrev due : List Call → List Call
due sent = Call.request 0x24000000 ∷ Call.credit 0 5 ∷ Call.request 0x24000404 ∷ (sent ++ Call.request 0x24000800 ∷ [])

abbrev due₁ : List Call
due₁ = due []

abbrev due₂ : List Call
due₂ = due (Call.lend 1 ∷ Call.credit 0 5 ∷ [])

unfoldable not-due : WithAhead (after two_cells due₁) (after two_cells due₂)
unfolding calls-compute
not-due = both_request 0x24000800 (sent_ahead 0 5 (both_request 0x24000404 (both_credit 0 5 (both_request 0x24000000 start))))

pub turn-not-without-due : BookedAlikeIf TurnButDue reference → ⊥
unfolding ahead-computes not-due
turn-not-without-due alike =
    let P = plan_of two_cells in
    let rooms = zero-alone HasRoom P not-due (after two_cells due₁) 5 (λ i. refl) (proved (all-ask room P 0 (after two_cells due₁)) tt) in
    let x = alike two_cells refl due₁ due₂ not-due ((lit< tt, tt), (rooms, (tt, tt))) in
    let z = ap (tally (at_slot 2)) x.same_grants in
    omega arith

pub books-not-without-due : BooksInOrderBy HasRoom reference → ⊥
unfolding ahead-computes
books-not-without-due books =
    let P = plan_of two_cells in
    let x = books two_cells refl due₁ 0 (lit< tt) (proved (ask-since room P 0 (after two_cells due₁)) tt) in
    let z = x.0 refl 5 (lit< tt) in
    omega arith

-- ---- without the credits

-- F = 5, W = 3, one flow with share 2 and 3 cells. It books slots 1, 2 and 5, and the cells of the first two fall free in slot 3, in which it sends the tile of
-- slot 5 ahead. A credit dated 4 is refused in the run without, since it holds nothing in slot 4, and taken in the other. Both grant it slots 6 and 10. Then
-- the first refuses, with three cells held, and the second grants slot 11.
abbrev pub three_cells : List ℕ
three_cells = plan1 5 3 8 2 3

abbrev pub credits : List Call → List Call
credits sent =
    Call.request 0x24000000 ∷ Call.request 0x24000400 ∷ Call.request 0x24000800 ∷ Call.credit 0 3 ∷ Call.credit 0 3 ∷ Call.tick ∷ Call.tick ∷ Call.tick
    ∷ (sent ++ Call.credit 0 4 ∷ Call.request 0x24000C03 ∷ Call.request 0x24001003 ∷ Call.request 0x24001403 ∷ [])

abbrev pub credits₁ : List Call
credits₁ = credits []

abbrev pub credits₂ : List Call
credits₂ = credits (Call.lend 1 ∷ Call.credit 0 5 ∷ [])

unfoldable pub accepted-alone : WithAhead (after three_cells credits₁) (after three_cells credits₂)
unfolding calls-compute
accepted-alone =
    both_request 0x24001403 (both_request 0x24001003 (both_request 0x24000C03 (both_credit 0 4 (sent_ahead 0 5 (both_tick (both_tick (both_tick (both_credit 0 3
    (both_credit 0 3 (both_request 0x24000800 (both_request 0x24000400 (both_request 0x24000000 start))))))))))))

pub not-without-credits : BookedAlikeIf ButCredits reference → ⊥
unfolding plans-compute calls-compute counts-compute accepted-alone
not-without-credits alike =
    let x = alike three_cells refl credits₁ credits₂ accepted-alone ((tt, (lit≤ tt, (lit≤ tt, (lit≤ tt, (lit≤ tt, (lit≤ tt, tt)))))), tt) in
    x.unmoved.0.same_grant

-- there is room in the second run at each request, and none in the first at the last
pub room-not-without-credits : RoomIf RoomButCredits reference → ⊥
unfolding ahead-computes accepted-alone
room-not-without-credits rooms =
    let P = plan_of three_cells in
    let there = zero-alone HasRoom P accepted-alone (after three_cells credits₂) 5 (λ i. refl) (proved (all-ask room P 0 (after three_cells credits₂)) tt) in
    let x = rooms three_cells refl credits₁ credits₂ accepted-alone ((lit< {n = 1} tt, tt), there) 0 (lit< {n = 5} tt) in
    let z = x.0 refl refl 10 (lit≤ tt) in
    omega arith

-- ---- without the credits, with room at each request

-- F = 5, W = 2, two flows with share 1 and 2 cells
abbrev five_slots : List ℕ
five_slots = plan2 5 2 8 1 2 1 2

-- Flow 0 books slots 1 and 5, and flow 1 slots 2 and 6; the cells of the first two fall free in slot 3, in which flow 0 sends the tile of slot 5 ahead. A
-- credit of it dated 4 is taken in the second run alone. In slot 7 flow 1's cells have come back, and flow 0's only where that credit was taken: there a reset
-- is granted, and flow 1 then books slot 8; in the first run it is refused, and flow 1 books slot 10.
abbrev reset_calls : List Call → List Call
reset_calls sent =
    Call.request 0x24000000 ∷ Call.request 0x24000400 ∷ Call.request 0x24100000 ∷ Call.request 0x24100400 ∷ Call.credit 0 3 ∷ Call.credit 1 3
    ∷ Call.tick ∷ Call.tick ∷ Call.tick ∷ (sent ++ Call.credit 0 4 ∷ Call.tick ∷ Call.tick ∷ Call.tick ∷ Call.credit 1 7 ∷ Call.tick ∷ Call.reset
    ∷ Call.request 0x24100807 ∷ [])

abbrev reset_calls₁ : List Call
reset_calls₁ = reset_calls []

abbrev reset_calls₂ : List Call
reset_calls₂ = reset_calls (Call.lend 1 ∷ Call.credit 0 5 ∷ [])

unfoldable reset-alone : WithAhead (after five_slots reset_calls₁) (after five_slots reset_calls₂)
unfolding calls-compute
reset-alone =
    both_request 0x24100807 (both_reset (both_tick (both_credit 1 7 (both_tick (both_tick (both_tick (both_credit 0 4 (sent_ahead 0 5 (both_tick (both_tick
    (both_tick (both_credit 1 3 (both_credit 0 3 (both_request 0x24100400 (both_request 0x24100000 (both_request 0x24000400
    (both_request 0x24000000 start)))))))))))))))))

pub turn-not-without-credits : BookedAlikeIf TurnButCredits reference → ⊥
unfolding ahead-computes reset-alone
turn-not-without-credits alike =
    let P = plan_of five_slots in
    let turns =
    zero-alone InTurn P reset-alone (after five_slots reset_calls₁) 5 (λ i. refl) (proved (all-ask in-turn P 0 (after five_slots reset_calls₁)) tt) in
    let x = alike five_slots refl reset_calls₁ reset_calls₂ reset-alone ((lit< {n = 1} tt, tt), (turns, (lit< {n = 1} tt, tt))) in
    let z = ap (tally (at_slot 8)) x.same_grants in
    omega arith

-- ---- without the order of resets

-- F = 4, W = 2, two flows with share 1 and 2 cells
abbrev one_each : List ℕ
one_each = plan2 4 2 8 1 2 1 2

-- Flow 1 books slot 1, whose cell falls free in slot 2. In slot 2 flow 0 sends slot 3 ahead, which is nobody's, and holds a cell in slot 2: a
-- reset is granted in the run without, and refused in the other. Flow 1 then books slot 3, and slot 4.
abbrev resets : List Call → List Call
resets sent = Call.request 0x24100000 ∷ Call.credit 1 2 ∷ Call.tick ∷ Call.tick ∷ (sent ++ Call.reset ∷ Call.request 0x24100400 ∷ [])

abbrev resets₁ : List Call
resets₁ = resets []

abbrev resets₂ : List Call
resets₂ = resets (Call.lend 1 ∷ Call.credit 0 3 ∷ [])

unfoldable no-resets : WithAhead (after one_each resets₁) (after one_each resets₂)
unfolding calls-compute
no-resets = both_request 0x24100400 (both_reset (sent_ahead 0 3 (both_tick (both_tick (both_credit 1 2 (both_request 0x24100000 start))))))

pub not-without-resets : BookedAlikeIf ButResets reference → ⊥
unfolding plans-compute calls-compute counts-compute no-resets
not-without-resets alike =
    let x = alike one_each refl resets₁ resets₂ no-resets ((lit≤ tt, (lit≤ tt, tt)), (tt, tt)) in
    let z = ap (tally (at_slot 3)) x.same_grants in
    omega arith

-- One flow with share 1 and two cells. It does the same, and in the run without is then granted slots 3 and 4: it holds both cells where it asks again. In the
-- other it is granted slot 4 alone, and has room.
abbrev one_flow : List ℕ
one_flow = plan1 4 2 8 1 2

abbrev rooms : List Call → List Call
rooms sent =
    Call.request 0x24000000 ∷ Call.credit 0 2 ∷ Call.tick ∷ Call.tick
    ∷ (sent ++ Call.reset ∷ Call.request 0x24000400 ∷ Call.request 0x24000800 ∷ Call.request 0x24000C00 ∷ [])

abbrev rooms₁ : List Call
rooms₁ = rooms []

abbrev rooms₂ : List Call
rooms₂ = rooms (Call.lend 1 ∷ Call.credit 0 3 ∷ [])

unfoldable no_room : WithAhead (after one_flow rooms₁) (after one_flow rooms₂)
unfolding calls-compute
no_room =
    both_request 0x24000C00 (both_request 0x24000800 (both_request 0x24000400 (both_reset (sent_ahead 0 3 (both_tick (both_tick (both_credit 0 2 (both_request 0x24000000 start))))))))

pub room-not-without-ready : RoomIf RoomButReady reference → ⊥
unfolding ahead-computes no_room
room-not-without-ready has =
    let P = plan_of one_flow in
    let there = zero-alone HasRoom P no_room (after one_flow rooms₂) 3 (λ i. refl) (proved (all-ask room P 0 (after one_flow rooms₂)) tt) in
    let x = has one_flow refl rooms₁ rooms₂ no_room ((tt, tt), there) 0 (lit< {n = 3} tt) in
    let z = x.0 refl refl 4 (lit≤ tt) in
    omega arith

-- ---- the number of a refusal

-- F = 4, W = 2; flow 0 with share 2 and one cell, flow 1 with share 2 and 8 cells
abbrev one_and_eight : List ℕ
one_and_eight = plan2 4 2 16 2 1 2 8

-- Flow 0 books slot 1, and slot 5 when its cell falls free in slot 5; then that falls free in slot 2. Flow 1 books slots 6 and 7. In slot 2 flow 0 sends the
-- tile of slot 5 ahead, and asks for a tile that comes in slot 7. Without the sending ahead slot 4 would be valid but for that, and the answer is 20. With
-- it slot 4 is full, and the answer is 12.
abbrev numbers : List Call → List Call
numbers sent =
    Call.request 0x24000000 ∷ Call.credit 0 5 ∷ Call.request 0x24000400 ∷ Call.credit 0 2 ∷ Call.request 0x24100005 ∷ Call.request 0x24100406
    ∷ Call.tick ∷ Call.tick ∷ (sent ++ Call.request 0x24000807 ∷ [])

-- the newest event
abbrev newest : List Call → List Event
newest calls = take 1 (run reference (plan_of one_and_eight) calls).history

pub another-number :
    (newest (numbers []) ≡ requested 0x24000807 (refused 20) ∷ [])
    × (newest (numbers (Call.lend 1 ∷ Call.credit 0 5 ∷ [])) ≡ requested 0x24000807 (refused 12) ∷ [])
unfolding calls-compute
another-number = (refl, refl)

-- ---- two runs that meet what is asked

-- The listing's plan. Flow 0 books slots 1, 2 and 4, with cells that fall free in slots 3 and 4, and sends the last tile ahead in slot 3; flow 1 books slot 5;
-- and then flow 0 slot 6.
abbrev calls : List Call → List Call
calls sent =
    Call.request 0x24000000 ∷ Call.request 0x24000400 ∷ Call.credit 0 3 ∷ Call.request 0x24000800 ∷ Call.credit 0 4 ∷ Call.tick ∷ Call.tick ∷ Call.tick
    ∷ (sent ++ Call.request 0x24100003 ∷ Call.tick ∷ Call.credit 0 5 ∷ Call.request 0x24000C04 ∷ Call.tick ∷ Call.tick ∷ [])

abbrev calls₁ : List Call
calls₁ = calls []

abbrev calls₂ : List Call
calls₂ = calls (Call.lend 1 ∷ Call.credit 0 4 ∷ [])

abbrev P : Plan
P = plan_of listing

abbrev h₁ : History
h₁ = (run reference P calls₁).history

abbrev h₂ : History
h₂ = (run reference P calls₂).history

unfoldable pub two_runs : WithAhead h₁ h₂
unfolding calls-compute
two_runs =
    both_tick (both_tick (both_request 0x24000C04 (both_credit 0 5 (both_tick (both_request 0x24100003 (sent_ahead 0 4 (both_tick (both_tick (both_tick
    (both_credit 0 4 (both_request 0x24000800 (both_credit 0 3 (both_request 0x24000400 (both_request 0x24000000 start))))))))))))))

pub each-ready : EachReady P (sending_of two_runs)
unfolding calls-compute counts-compute due_slot two_runs
each-ready = (lit< tt, tt)

pub booked-alike : BookedAlike P two_runs
unfolding plans-compute calls-compute counts-compute two_runs
booked-alike =
    nobody-moves listing refl calls₁ calls₂ two_runs (lit≤ tt, (lit≤ tt, (lit≤ tt, (lit≤ tt, (lit≤ tt, tt))))) tt (tt, (tt, (tt, tt)))

pub sent-well : SentWell P (sending_of two_runs)
unfolding plans-compute
sent-well = sends-well reference meets listing refl calls₂ (sending_of two_runs) each-ready

-- the tile with slot 4 leaves in slot 3
pub tiles-are :
    tiles P (sending_of two_runs)
    ≡ record { flow = 0; from = 5; slot = 6; leaves = 6 } ∷ record { flow = 1; from = 4; slot = 5; leaves = 5 }
    ∷ record { flow = 0; from = 1; slot = 4; leaves = 3 } ∷ record { flow = 0; from = 1; slot = 2; leaves = 2 } ∷ record { flow = 0; from = 1; slot = 1; leaves = 1 } ∷ []
unfolding calls-compute counts-compute due_slot leaves_in two_runs
tiles-are = refl

-- ---- the same, with a reset

-- F = 4, W = 2, one flow with share 1 and two cells. It books slots 1 and 4, and sends the second tile in slot 2; in slot 5 both cells have come back, and a
-- reset is granted in both. Then it books slot 6.
abbrev reset_after_sending : List Call → List Call
reset_after_sending sent =
    Call.request 0x24000000 ∷ Call.request 0x24000400 ∷ Call.credit 0 2 ∷ Call.tick ∷ Call.tick
    ∷ (sent ++ Call.credit 0 5 ∷ Call.tick ∷ Call.tick ∷ Call.tick ∷ Call.reset ∷ Call.request 0x24000805 ∷ Call.tick ∷ [])

abbrev reset_after_sending₁ : List Call
reset_after_sending₁ = reset_after_sending []

abbrev reset_after_sending₂ : List Call
reset_after_sending₂ = reset_after_sending (Call.lend 1 ∷ Call.credit 0 4 ∷ [])

unfoldable pub with-reset : WithAhead (after one_flow reset_after_sending₁) (after one_flow reset_after_sending₂)
unfolding calls-compute
with-reset =
    both_tick (both_request 0x24000805 (both_reset (both_tick (both_tick (both_tick (both_credit 0 5 (sent_ahead 0 4 (both_tick (both_tick (both_credit 0 2
    (both_request 0x24000400 (both_request 0x24000000 start))))))))))))

pub reset-in-both : BookedAlike (plan_of one_flow) with-reset
unfolding plans-compute calls-compute counts-compute with-reset
reset-in-both = nobody-moves one_flow refl reset_after_sending₁ reset_after_sending₂ with-reset (lit≤ tt, (lit≤ tt, (lit≤ tt, tt))) (come-up, tt) (tt, (tt, tt))
  where
    come-up : (j : ℕ) → latest (plan_of one_flow) with-reset j ≤ 5
    come-up j = go (eqb j 0)
      where
        go : (b : Bool) → cond b 4 0 ≤ 5
        go true = lit≤ tt
        go false = lit≤ tt
