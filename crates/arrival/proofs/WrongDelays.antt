-- Schedulers that make a flow wait are sent back: by `Prompt` or by `Soon`, where demand 3 takes them, and else by demand 3; and one that mixes up a stream's
-- slots, by `SharesInOrder`. Assumes nothing.
use Prim.Native.Nat.{ℕ}
use mathlib.Core.Path.{refl}
use mathlib.Core.List.{List, ◌∷◌, []}
use native.Mathlib.Omega.{arith}
use lib.Dec.{lit<}
use Rattle.model.specs.Plan.{plan_of}
use Rattle.model.specs.Calls.{Call}
use Rattle.model.specs.Claim.{Clause}
use Rattle.model.specs.Scheduler.{Meets, run}
use Rattle.model.specs.PlanBytes.{plan1, one_cell}
use Rattle.arrival.specs.Delay.{Prompt, Soon}
use Rattle.arrival.specs.SharesOfCells.{SharesInOrder}
use Rattle.arrival.specs.WrongDelays.{had12, stays_refused, ever12, never_forgets, sends_to_newest, rests_at_first, newest_only, tick_moves_on, takes_last}
use Rattle.model.proofs.Decidable.{proved, refuted}
use Rattle.model.proofs.WrongSchedulers.{two-flows, one_cell_lem, sent_back, events-compute}
use Rattle.arrival.proofs.DelayDecided.{prompt-on, fits-newest, modest-on-arrival, delays-compute}
use Rattle.arrival.proofs.CellsNeeded.{given_back, keeps-shares}

-- ---- by `Prompt`

-- F = 4, share 2, one cell: slot 1 is granted, and then 12. In slot 2 the cell is free, and the next request is refused, where one grant was made in the
-- frame.
pub stays-refused : Prompt stays_refused → ⊥
unfolding delays-compute had12
stays-refused prompt =
    let calls = Call.request 0x24000000 ∷ Call.request 0x24000400 ∷ Call.credit 0 2 ∷ Call.tick ∷ Call.tick ∷ Call.request 0x24000402 ∷ [] in
    let h = (run stays_refused (plan_of one_cell) calls).history in
    refuted (prompt-on fits-newest 0 (plan_of one_cell) h) tt (prompt one_cell refl calls)

-- ---- by `Soon`

-- F = 1, W = 3
abbrev pub one_slot : List ℕ
one_slot = plan1 1 3 8 1 8

-- the flow asks first in slot 1, and is granted slot 3
pub sends-to-newest : Soon sends_to_newest → ⊥
unfolding delays-compute
sends-to-newest soon =
    let calls = Call.tick ∷ Call.request 0x24000001 ∷ [] in
    let h = (run sends_to_newest (plan_of one_slot) calls).history in
    let x = soon one_slot refl calls 0 (lit< tt) (proved (modest-on-arrival (plan_of one_slot) 0 h) tt) in
    omega (arith, (x.0 refl).this_or_next)

-- ---- by `SharesInOrder`

-- F = 3, W = 2, share 2, four cells. Slots 3, 4, 6 and 7 are granted in the last slots of frames 0 and 1, and the first two cells are credited, dated slot 8.
-- In slot 7 the flow holds all four, and slot 11 is granted; in slot 8 it has room, and slot 9 is granted.
pub takes-last : SharesInOrder takes_last → ⊥
unfolding delays-compute given_back keeps-shares
takes-last order =
    let bytes = plan1 3 2 8 2 4 in
    let calls = Call.tick ∷ Call.tick ∷ Call.request 0x24000002 ∷ Call.request 0x24000402 ∷ Call.tick ∷ Call.credit 0 2 ∷ Call.tick ∷ Call.credit 0 2
    ∷ Call.tick ∷ Call.request 0x24000805 ∷ Call.request 0x24000C05 ∷ Call.tick ∷ Call.tick ∷ Call.request 0x24001001 ∷ Call.tick
    ∷ Call.request 0x24001402 ∷ [] in
    let h = (run takes_last (plan_of bytes) calls).history in
    omega (arith, (order 0 bytes refl calls 0 (lit< tt) (proved (keeps-shares 0 0 (plan_of bytes) (lit< tt) 0 h) tt)).0 refl 11 (lit< tt))

-- ---- by demand 3

-- If the 12 stood past a granted reset, demand 3 would see it: the counts begin afresh. A request after the reset is refused, where the least count is 2.
pub never-forgets : Meets never_forgets → ⊥
unfolding events-compute ever12
never-forgets =
    sent_back never_forgets one_cell_lem
    (Call.request 0x24000000 ∷ Call.request 0x24000400 ∷ Call.credit 0 2 ∷ Call.tick ∷ Call.tick ∷ Call.reset ∷ Call.request 0x24000402 ∷ [])
    Clause.least tt

-- one request, in slot 0: the least count is 2
pub rests-at-first : Meets rests_at_first → ⊥
unfolding events-compute
rests-at-first = sent_back rests_at_first two-flows (Call.request 0x24000000 ∷ []) Clause.least tt

-- W = 3: slot 2 is granted, and then 11, where the least count is 2
pub newest-only : Meets newest_only → ⊥
unfolding events-compute
newest-only =
    sent_back newest_only (record { bytes = one_slot; accepted_plan = refl; some_flow = lit< tt })
    (Call.request 0x24000000 ∷ Call.request 0x24000400 ∷ []) Clause.least tt

-- F = 2, W = 3: the flow asks first in slot 1, still in frame 0, and is granted slot 4, and then 11, where the least count is 2. (Moved at frame changes
-- alone it would lose nothing that demand 3 counts.)
pub tick-moves-on : Meets tick_moves_on → ⊥
unfolding events-compute
tick-moves-on =
    sent_back tick_moves_on (record { bytes = plan1 2 3 8 1 8; accepted_plan = refl; some_flow = lit< tt })
    (Call.tick ∷ Call.request 0x24000001 ∷ Call.request 0x24000401 ∷ []) Clause.least tt
