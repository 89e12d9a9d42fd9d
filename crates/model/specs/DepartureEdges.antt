-- Edges of departures. RULES 6.3 and 6.4. Assumes nothing.
--
-- What each comes to is worked out from the rules. Where a row says no more, F = 4 and W = 2: on a fresh link the head frame is 0 to 3 and the newest
-- 4 to 7.
use Rattle.std.specs.Prelude.{List, ◌∷◌, []}
use Rattle.model.specs.Calls.{requested, accepted, refused}
use Rattle.model.specs.PlanBytes.{plan1, listing, roomy, single, one_cell, one_share}
use Rattle.model.specs.EdgeCases.{Case, grant, refuse, grant_from, refuse_from, idle, idles, plays, follows}

unfoldable pub departure_edges : List Case
departure_edges =
    -- later than the departure, and not at it
    follows listing (grant_from 0 2 3 ∷ [])
    -- just after CP; the position at the departure is free for a tile that has come
    ∷ follows listing (grant_from 0 1 2 ∷ grant 0 1 ∷ [])
    -- a tile that has come: departure CP, and before CP in the head frame, which is frame 0 and then frame 1
    ∷ follows listing (idles 2 (grant_from 0 2 3 ∷ []))
    ∷ follows listing (idles 2 (grant_from 0 1 3 ∷ []))
    ∷ follows listing (idles 6 (grant_from 0 4 7 ∷ grant_from 0 5 0 ∷ []))
    -- the position decides and not the slot: 3 lies in the newest frame, though its slot has just gone by
    ∷ follows listing (idles 4 (refuse_from 0 3 20 ∷ []))
    ∷ follows single (idle ∷ refuse_from 0 0 20 ∷ grant 0 0 ∷ [])
    -- going round: in the head frame 4 to 7, from 7 on to 0, and from 0 on to 1
    ∷ follows listing (idles 4 (grant_from 0 7 0 ∷ []))
    ∷ follows listing (idles 4 (grant_from 0 0 1 ∷ []))
    -- the newest frame's last slot, in windows of 8, 2 and 32 positions: no position is later
    ∷ follows listing (refuse_from 0 7 20 ∷ [])
    ∷ follows single (refuse_from 0 1 20 ∷ grant 0 1 ∷ [])
    ∷ follows (plan1 4 8 4 1 4) (refuse_from 0 31 20 ∷ grant_from 0 30 31 ∷ [])
    -- the same at CP = 5, where it is 3
    ∷ follows listing (idles 5 (refuse_from 0 3 20 ∷ grant_from 0 2 3 ∷ []))
    -- frames that the departure rules out are left behind: IF is the newest frame after 20, and after a grant there
    ∷ follows listing (refuse_from 0 7 20 ∷ grant 0 4 ∷ [])
    ∷ follows listing (grant_from 0 5 6 ∷ grant 0 4 ∷ [])
    -- F = 2, W = 4, share 1: frames 0 and 1 are walked past, and their shares are lost
    ∷ follows (plan1 2 4 8 1 8) (grant_from 0 4 5 ∷ grant 0 6 ∷ refuse 0 11 ∷ [])
    -- 11 before 20: the share is spent; 20 before 12: a cell is free; 12: none is
    ∷ follows one_share (grant 0 1 ∷ grant 0 4 ∷ refuse_from 0 7 11 ∷ [])
    ∷ follows one_share (grant 0 1 ∷ refuse_from 0 7 20 ∷ [])
    ∷ follows one_cell (grant 0 1 ∷ refuse_from 0 7 12 ∷ [])
    -- 20 looks at the whole newest frame: 7 is booked, and 4 to 6 would be valid
    ∷ follows listing (grant_from 1 6 7 ∷ refuse_from 0 6 20 ∷ [])
    -- and not at the departure's own position, which is booked here
    ∷ follows listing (grant_from 1 6 7 ∷ refuse_from 0 7 20 ∷ [])
    -- C is the share after 20 as the newest frame is reached, and then stays as it is
    ∷ follows roomy (grant 0 1 ∷ refuse_from 0 7 20 ∷ grant 0 4 ∷ refuse_from 0 7 20 ∷ grant 0 5 ∷ refuse_from 0 7 11 ∷ [])
    -- RULES 6.2, each later position too: the cell is held from 2 on, so that 1 is not valid though nothing is held there
    ∷ follows one_cell (grant_from 0 1 2 ∷ refuse 0 12 ∷ [])
    -- another flow's frame stays
    ∷ follows listing (refuse_from 0 7 20 ∷ grant 1 1 ∷ [])
    -- the tile has come in the meantime
    ∷ follows listing (refuse_from 0 7 20 ∷ idles 7 (grant_from 0 7 0 ∷ []))
    -- 9 and 10 come first and leave the frame
    ∷ plays listing (requested 0x20000007 (refused 9) ∷ requested 0x24000008 (refused 10) ∷ requested 0x24000000 (accepted 0x24000001) ∷ [])
    ∷ []
