-- Edges of resets. RULES 10.1 and 10.2. Assumes nothing.
--
-- What each comes to is worked out from the rules. Where a row says no more, F = 4 and W = 2.
use Rattle.std.specs.Prelude.{List, ◌∷◌, []}
use Rattle.model.specs.PlanBytes.{plan1, plan_of_many, listing, roomy, single, one_share}
use Rattle.model.specs.EdgeCases.{Case, grant, refuse, grant_from, refuse_from, credit, serve, idle, idles, lend, deny, grant_reset, decline, follows}

unfoldable pub reset_edges : List Case
reset_edges =
    -- on a fresh link, and twice in a row: nothing changes, and slot 0 is not marked
    follows listing (grant_reset ∷ grant_reset ∷ lend 1 0 ∷ [])
    ∷ follows listing (grant_reset ∷ grant 0 1 ∷ grant 0 2 ∷ refuse 0 12 ∷ [])
    -- a later position is booked, the last one of the window too, though nothing is held; booked at CP it does not stand in the way
    ∷ follows listing (grant 0 1 ∷ credit 0 1 ∷ decline 23 ∷ serve 0 ∷ grant_reset ∷ [])
    ∷ follows listing (grant_from 1 6 7 ∷ credit 1 7 ∷ idles 6 (decline 23 ∷ serve 1 ∷ grant_reset ∷ []))
    -- later is by rank, going round: at CP = 4 position 0 is booked, and at CP = 0 it is current
    ∷ follows listing (idles 4 (grant_from 0 7 0 ∷ credit 0 0 ∷ decline 23 ∷ idle ∷ idle ∷ idle ∷ decline 23 ∷ serve 0 ∷ grant_reset ∷ []))
    -- the cell of a booked slot is held at CP and at no later position; once CP is past it, the holding does not stand in the
    -- way (that it stays is seen in an image)
    ∷ follows listing (grant 0 1 ∷ credit 0 2 ∷ serve 0 ∷ decline 23 ∷ idle ∷ grant_reset ∷ [])
    -- a lent slot is held at CP until the tick, by any flow
    ∷ follows listing (lend 1 0 ∷ decline 23 ∷ credit 0 1 ∷ decline 23 ∷ idle ∷ grant_reset ∷ [])
    ∷ follows (plan_of_many 16) (lend 32768 15 ∷ decline 23 ∷ credit 15 1 ∷ idle ∷ grant_reset ∷ [])
    -- held from CP on, with nothing booked any more
    ∷ follows listing (grant 1 1 ∷ serve 1 ∷ idle ∷ decline 23 ∷ credit 1 3 ∷ decline 23 ∷ idle ∷ grant_reset ∷ [])
    -- a booked current slot is marked, a second reset lets the mark stand, and the tick takes it off
    ∷ follows listing (grant 0 1 ∷ credit 0 1 ∷ serve 0 ∷ grant_reset ∷ deny 1 17 ∷ grant_reset ∷ deny 1 17 ∷ idle ∷ lend 1 0 ∷ [])
    -- a slot gone by that was booked is not the current one
    ∷ follows listing (grant 0 1 ∷ credit 0 1 ∷ serve 0 ∷ idle ∷ grant_reset ∷ lend 2 1 ∷ [])
    -- every IF becomes HF, the newest frame's too: after 20, and with three frames
    ∷ follows listing (refuse_from 0 7 20 ∷ grant_reset ∷ grant 0 1 ∷ [])
    ∷ follows (plan1 4 3 8 1 8) (refuse_from 0 11 20 ∷ grant_reset ∷ grant 0 1 ∷ grant 0 4 ∷ grant 0 8 ∷ refuse 0 11 ∷ [])
    -- and another flow's
    ∷ follows listing (refuse_from 0 7 20 ∷ refuse_from 1 7 20 ∷ grant_reset ∷ grant 1 1 ∷ grant 0 2 ∷ [])
    -- every C the share: with a share of 1, slots 1 and 2 of frame 0
    ∷ follows one_share (grant 0 1 ∷ credit 0 1 ∷ serve 0 ∷ grant_reset ∷ grant 0 2 ∷ grant 0 4 ∷ refuse 0 11 ∷ [])
    -- with a share of 2, slots 1, 2 and 3 of frame 0
    ∷ follows listing (grant 0 1 ∷ credit 0 1 ∷ grant 0 2 ∷ credit 0 2 ∷ serve 0 ∷ serve 0 ∷ grant_reset ∷ grant 0 3 ∷ grant 0 4 ∷ refuse 0 12 ∷ [])
    -- the clock goes on: after a reset in frame 1, with the rest of it, and then round to frame 0
    ∷ follows roomy (idles 5 (grant_reset ∷ grant 0 6 ∷ grant 0 7 ∷ grant 0 0 ∷ grant 0 1 ∷ refuse 0 11 ∷ serve 0 ∷ serve 0 ∷ serve 0 ∷ serve 0 ∷ idle ∷ []))
    -- at a frame's last slot, and at its first; F = 1, where the frame has no rest
    ∷ follows roomy (idles 7 (grant_reset ∷ grant 0 0 ∷ grant 0 1 ∷ refuse 0 11 ∷ []))
    ∷ follows roomy (refuse_from 0 7 20 ∷ idles 4 (grant_reset ∷ grant 0 5 ∷ grant 0 6 ∷ grant 0 0 ∷ grant 0 1 ∷ refuse 0 11 ∷ []))
    ∷ follows single (grant 0 1 ∷ credit 0 1 ∷ serve 0 ∷ grant_reset ∷ deny 1 17 ∷ grant 0 0 ∷ refuse 0 11 ∷ serve 0 ∷ decline 23 ∷ [])
    -- a refused reset changes nothing: IF is the newest frame, and the mark stands
    ∷ follows listing (refuse_from 0 7 20 ∷ lend 2 1 ∷ decline 23 ∷ deny 1 17 ∷ grant 0 4 ∷ [])
    -- and so does the owner at CP, and C
    ∷ follows listing (grant 0 1 ∷ serve 0 ∷ decline 23 ∷ deny 1 17 ∷ [])
    ∷ follows one_share (grant 0 1 ∷ decline 23 ∷ grant 0 4 ∷ refuse 0 11 ∷ [])
    ∷ []
