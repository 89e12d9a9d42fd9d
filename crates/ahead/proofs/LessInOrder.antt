-- What each premise on tiles that leave in order is for, and on those that leave within the bounds of a way: without it they do not. Assumes nothing.
use Prim.Native.Nat.{ℕ, suc}
use mathlib.Core.Path.{◌≡◌, refl}
use mathlib.Core.List.{List, ◌∷◌, [], ◌++◌}
use mathlib.Core.Bool.{Bool, true, false, cond}
use native.Mathlib.Omega.{arith}
use lib.Dec.{lit<, eqb}
use Rattle.model.specs.Plan.{plan_of}
use Rattle.model.specs.Calls.{Call}
use Rattle.model.specs.LessAsked.{HasRoom}
use Rattle.model.specs.Scheduler.{reference}
use Rattle.model.specs.PlanBytes.{plan1, listing}
use Rattle.arrival.specs.SeveralLinks.{slots_of, tile, Board, sent_on}
use Rattle.ahead.specs.AheadRuns.{WithAhead, start, both_tick, both_request, both_credit, both_lend, both_reset, sent_ahead, later_of}
use Rattle.ahead.specs.Sendings.{Tile, sending_of, FirstFirst}
use Rattle.ahead.specs.AheadOverLinks.{leaves_of}
use Rattle.ahead.specs.LessAhead.{LeaveInOrderIf, OrderButReady, OrderButRoom, OrderButCredits, OrderButFirst, OrderButLent, WithinButAlike, WithinButLent}
use Rattle.model.proofs.Decidable.{proved}
use Rattle.arrival.proofs.DelayDecided.{room}
use Rattle.ahead.proofs.AheadDecided.{all-ask, zero-alone, lent-only, all_left, ahead-computes}
use Rattle.ahead.proofs.LessAhead.{after, two_cells, three_cells, credits₁, credits₂, accepted-alone}

-- flow 0's tile with slot s, which came in slot 0 and waits
abbrev waiting : ℕ → Tile
waiting s = record { flow = 0; from = 1; slot = s; leaves = s }

-- one that came in slot d, has slot s and leaves in slot r
abbrev came : (d s r : ℕ) → Tile
came d s r = record { flow = 0; from = suc d; slot = s; leaves = r }

-- ---- without tiles that are ready

-- F = 8, W = 2, one flow with share 4 and two cells. In slot 0 it sends slot 5 ahead, which is nobody's, and so has one cell up to there: it books slots 1
-- and 5. Both cells fall free in slot 2, in which it sends the tile of slot 5 ahead; and then it books slot 3.
abbrev early : (sent again : List Call) → List Call
early sent again =
    sent ++ Call.request 0x24000000 ∷ Call.request 0x24000400 ∷ Call.credit 0 2 ∷ Call.credit 0 2 ∷ Call.tick ∷ Call.tick ∷ (again ++ Call.request 0x24000800 ∷ [])

abbrev early₁ : List Call
early₁ = early [] []

abbrev early₂ : List Call
early₂ = early (Call.lend 1 ∷ Call.credit 0 5 ∷ []) (Call.lend 1 ∷ Call.credit 0 5 ∷ [])

unfoldable not-ready : WithAhead (after two_cells early₁) (after two_cells early₂)
unfolding ahead-computes
not-ready =
    both_request 0x24000800 (sent_ahead 0 5 (both_tick (both_tick (both_credit 0 2 (both_credit 0 2 (both_request 0x24000400 (both_request 0x24000000 (sent_ahead 0 5 start))))))))

-- the latest slot, sent ahead twice
twice : (b : Bool) → cond b (later_of 5 (cond b 5 0)) (cond b 5 0) ≡ cond b 5 0
twice true = refl
twice false = refl

pub order-not-without-ready : LeaveInOrderIf OrderButReady reference → ⊥
unfolding ahead-computes not-ready
order-not-without-ready leave =
    let P = plan_of two_cells in
    let rooms = zero-alone HasRoom P not-ready (after two_cells early₁) 5 (λ i. twice (eqb i 0)) (proved (all-ask room P 0 (after two_cells early₁)) tt) in
    let first : FirstFirst P (sending_of not-ready) 0 =
    (λ own a r. all_left 0 5 2 (waiting 5 ∷ waiting 1 ∷ []) refl a r, (λ own a r. all_left 0 5 0 [] refl a r, tt)) in
    let x = leave two_cells refl early₁ early₂ not-ready ((rooms, (tt, (tt, tt))), (first, proved (lent-only (sending_of not-ready) 0) tt)) in
    let z = x 3 3 5 2 (lit< tt) (lit< tt) (lit< tt) in
    omega arith

-- ---- without room

-- The same plan. The flow books slots 1 and 2, and with a cell that falls free in slot 5 slot 5. A cell falls free in slot 3, in which it sends the tile of
-- slot 5 ahead, and one in slot 4: then it books slot 4.
abbrev full : List Call → List Call
full sent =
    Call.request 0x24000000 ∷ Call.request 0x24000400 ∷ Call.credit 0 5 ∷ Call.request 0x24000800 ∷ Call.credit 0 3 ∷ Call.tick ∷ Call.tick ∷ Call.tick
    ∷ (sent ++ Call.credit 0 4 ∷ Call.request 0x24000C00 ∷ [])

abbrev full₁ : List Call
full₁ = full []

abbrev full₂ : List Call
full₂ = full (Call.lend 1 ∷ Call.credit 0 5 ∷ [])

unfoldable no_room : WithAhead (after two_cells full₁) (after two_cells full₂)
unfolding ahead-computes
no_room =
    both_request 0x24000C00 (both_credit 0 4 (sent_ahead 0 5 (both_tick (both_tick (both_tick (both_credit 0 3 (both_request 0x24000800 (both_credit 0 5
    (both_request 0x24000400 (both_request 0x24000000 start))))))))))

pub order-not-without-room : LeaveInOrderIf OrderButRoom reference → ⊥
unfolding ahead-computes no_room
order-not-without-room leave =
    let first : FirstFirst (plan_of two_cells) (sending_of no_room) 0 = (λ own a r. all_left 0 5 3 (waiting 5 ∷ waiting 2 ∷ waiting 1 ∷ []) refl a r, tt) in
    let x = leave two_cells refl full₁ full₂ no_room
    (((lit< {n = 1} tt, tt), (tt, (tt, (tt, tt)))), (first, proved (lent-only (sending_of no_room) 0) tt)) in
    let z = x 4 4 5 3 (lit< tt) (lit< tt) (lit< tt) in
    omega arith

-- ---- without the credits

-- F = 8, W = 2, one flow with share 2 and 3 cells. It books slots 1, 2 and 8, and the cells of the first two fall free in slot 3, in which it sends the tile of
-- slot 8 ahead. The second run alone takes a credit dated 4, and is granted a reset in slot 8. The flow then asks four times: the first run grants slots 9, 16
-- and 17 and refuses with 11, the second grants slots 9, 10, 16 and 17. So its next words carry numbers that the first run does not expect, and it has room
-- there all along. In the second run it holds all of its cells: in slot 16 it is granted slot 28, in which one falls free. In slot 25 it sends the tile of
-- slot 28 ahead, and then is granted slot 26.
abbrev unlike : List ℕ
unlike = plan1 8 2 8 2 3

abbrev ticks : List Call → List Call
ticks rest = Call.tick ∷ Call.tick ∷ Call.tick ∷ rest

abbrev alone : (sent again : List Call) → List Call
alone sent again =
    Call.request 0x24000000 ∷ Call.request 0x24000400 ∷ Call.request 0x24000800 ∷ Call.credit 0 3 ∷ Call.credit 0 3
    ∷ ticks (sent ++ Call.credit 0 4
    ∷ ticks (Call.tick ∷ Call.tick ∷ Call.reset ∷ Call.credit 0 9 ∷ Call.request 0x24000C08 ∷ Call.request 0x24001008 ∷ Call.request 0x24001408
    ∷ Call.credit 0 1 ∷ Call.request 0x24001808 ∷ Call.tick ∷ Call.tick
    ∷ ticks (ticks (Call.credit 0 12 ∷ Call.request 0x24001C00 ∷ Call.credit 0 9
    ∷ ticks (ticks (ticks (again ++ Call.credit 0 10 ∷ Call.request 0x24002009 ∷ [])))))))

abbrev alone₁ : List Call
alone₁ = alone [] []

abbrev alone₂ : List Call
alone₂ = alone (Call.lend 1 ∷ Call.credit 0 8 ∷ []) (Call.lend 1 ∷ Call.credit 0 12 ∷ [])

unfoldable reset-alone : WithAhead (after unlike alone₁) (after unlike alone₂)
unfolding ahead-computes
reset-alone =
    both_request 0x24002009 (both_credit 0 10 (sent_ahead 0 12 (both_tick (both_tick (both_tick (both_tick (both_tick (both_tick (both_tick (both_tick
    (both_tick (both_credit 0 9 (both_request 0x24001C00 (both_credit 0 12 (both_tick (both_tick (both_tick (both_tick (both_tick (both_tick (both_tick
    (both_tick (both_request 0x24001808 (both_credit 0 1 (both_request 0x24001408 (both_request 0x24001008 (both_request 0x24000C08 (both_credit 0 9 (both_reset
    (both_tick (both_tick (both_tick (both_tick (both_tick (both_credit 0 4 (sent_ahead 0 8 (both_tick (both_tick (both_tick (both_credit 0 3 (both_credit 0 3
    (both_request 0x24000800 (both_request 0x24000400 (both_request 0x24000000 start))))))))))))))))))))))))))))))))))))))))))))

-- the latest of slots 28 and 8
later : (b : Bool) → cond b (later_of 28 (cond b 8 0)) (cond b 8 0) ≡ cond b 28 0
later true = refl
later false = refl

pub order-not-without-credits : LeaveInOrderIf OrderButCredits reference → ⊥
unfolding ahead-computes reset-alone
order-not-without-credits leave =
    let P = plan_of unlike in
    let rooms = zero-alone HasRoom P reset-alone (after unlike alone₁) 28 (λ i. later (eqb i 0)) (proved (all-ask room P 0 (after unlike alone₁)) tt) in
    let before = came 16 28 28 ∷ came 8 17 17 ∷ came 8 16 16 ∷ came 8 10 10 ∷ came 8 9 9 ∷ came 0 8 3 ∷ waiting 2 ∷ waiting 1 ∷ [] in
    let first : FirstFirst P (sending_of reset-alone) 0 =
    (λ same a r. all_left 0 28 25 before refl a r, (λ same a r. all_left 0 8 3 (waiting 8 ∷ waiting 2 ∷ waiting 1 ∷ []) refl a r, tt)) in
    let x = leave unlike refl alone₁ alone₂ reset-alone ((lit< {n = 1} tt, (lit< {n = 1} tt, tt)), (rooms, (first, proved (lent-only (sending_of reset-alone) 0) tt))) in
    let z = x 26 26 28 25 (lit< tt) (lit< tt) (lit< tt) in
    omega arith

-- ---- without the order of tiles

-- F = 4, W = 2, one flow with share 2 and 8 cells. It books slots 1, 2, 4 and 5, and sends the tile of slot 5 ahead in slot 3.
abbrev eight_cells : List ℕ
eight_cells = plan1 4 2 8 2 8

abbrev second : List Call → List Call
second sent =
    Call.request 0x24000000 ∷ Call.request 0x24000400 ∷ Call.request 0x24000800 ∷ Call.request 0x24000C00 ∷ Call.tick ∷ Call.tick ∷ Call.tick ∷ sent

abbrev second₁ : List Call
second₁ = second []

abbrev second₂ : List Call
second₂ = second (Call.lend 1 ∷ Call.credit 0 5 ∷ [])

unfoldable second-first : WithAhead (after eight_cells second₁) (after eight_cells second₂)
unfolding ahead-computes
second-first =
    sent_ahead 0 5 (both_tick (both_tick (both_tick (both_request 0x24000C00 (both_request 0x24000800 (both_request 0x24000400
    (both_request 0x24000000 start)))))))

pub order-not-without-first : LeaveInOrderIf OrderButFirst reference → ⊥
unfolding ahead-computes second-first
order-not-without-first leave =
    let P = plan_of eight_cells in
    let rooms = zero-alone HasRoom P second-first (after eight_cells second₁) 5 (λ i. refl) (proved (all-ask room P 0 (after eight_cells second₁)) tt) in
    let x = leave eight_cells refl second₁ second₂ second-first ((lit< {n = 1} tt, tt), ((rooms, tt), proved (lent-only (sending_of second-first) 0) tt)) in
    let z = x 4 4 5 3 (lit< tt) (lit< tt) (lit< tt) in
    omega arith

-- ---- with a slot that is lent for another tile

-- F = 4, W = 2, one flow with share 1 and 4 cells. It books slots 1 and 4, sends the tile of slot 4 ahead in slot 2, and is lent slot 3.
abbrev one_share : List ℕ
one_share = plan1 4 2 8 1 4

abbrev lent : List Call → List Call
lent sent = Call.request 0x24000000 ∷ Call.request 0x24000400 ∷ Call.tick ∷ Call.tick ∷ (sent ++ Call.tick ∷ Call.lend 1 ∷ [])

abbrev lent₁ : List Call
lent₁ = lent []

abbrev lent₂ : List Call
lent₂ = lent (Call.lend 1 ∷ Call.credit 0 4 ∷ [])

unfoldable lent-after : WithAhead (after one_share lent₁) (after one_share lent₂)
unfolding ahead-computes
lent-after = both_lend 0 (both_tick (sent_ahead 0 4 (both_tick (both_tick (both_request 0x24000400 (both_request 0x24000000 start))))))

pub order-not-without-lent : LeaveInOrderIf OrderButLent reference → ⊥
unfolding ahead-computes lent-after
order-not-without-lent leave =
    let P = plan_of one_share in
    let rooms = zero-alone HasRoom P lent-after (after one_share lent₁) 4 (λ i. refl) (proved (all-ask room P 0 (after one_share lent₁)) tt) in
    let first : FirstFirst P (sending_of lent-after) 0 = (λ own a r. all_left 0 4 2 (waiting 4 ∷ waiting 1 ∷ []) refl a r, tt) in
    let x = leave one_share refl lent₁ lent₂ lent-after ((lit< {n = 1} tt, tt), ((rooms, tt), first)) in
    let z = x 3 3 4 2 (lit< tt) (lit< tt) (lit< tt) in
    omega arith

-- ---- over several links

-- The listing's plan, and flow 0 as the stream. Slot 0 is lent to it: a tile leaves, and none is booked.
abbrev lent_only : List Call
lent_only = Call.lend 1 ∷ []

unfoldable lent-board : Board reference
unfolding ahead-computes
lent-board = record {
  bytes = listing;
  passes = refl;
  events = after listing lent_only;
  ran = record { calls = lent_only; is = refl };
  no_reset = refl;
  stream = 0;
  known = lit< tt;
}

pub within-not-without-lent : WithinButLent reference → ⊥
unfolding ahead-computes lent-board leaves_of slots_of tile
within-not-without-lent kept =
    let x = kept 0 (plan_of listing) [] lent-board (record { frames_later = λ n below. absurd (omega arith); slots_later = λ n below. absurd (omega arith) }) lent_only
    (both_lend 0 start) (record { unmoved = tt; same_grants = refl }) in
    omega (arith, x.as_many)

-- The runs of `not-without-credits`: the second has a tile more.
unfoldable credits-board : Board reference
unfolding ahead-computes
credits-board = record {
  bytes = three_cells;
  passes = refl;
  events = after three_cells credits₁;
  ran = record { calls = credits₁; is = refl };
  no_reset = refl;
  stream = 0;
  known = lit< tt;
}

pub within-not-without-alike : WithinButAlike reference → ⊥
unfolding ahead-computes accepted-alone credits-board leaves_of slots_of tile
within-not-without-alike kept =
    let x = kept 0 (plan_of three_cells) (sent_on credits-board) credits-board
    (record { frames_later = λ n below. omega arith; slots_later = λ n below. omega arith }) credits₂ accepted-alone
    (proved (lent-only (sending_of accepted-alone) 0) tt) in
    omega (arith, x.as_many)
