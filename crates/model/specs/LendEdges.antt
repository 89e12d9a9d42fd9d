-- Edges of lends. RULES 9.1 to 9.4. Assumes nothing.
--
-- What each comes to is worked out from the rules. Masks: 1 is flow 0, 2 is flow 1, 3 both.
use Rattle.std.specs.Prelude.{List, ◌∷◌, []}
use Rattle.model.specs.PlanBytes.{plan_of_many, listing, single, one_cell, one_share}
use Rattle.model.specs.EdgeCases.{Case, grant, refuse, credit, reject, serve, idle, idles, lend, deny, follows}

unfoldable pub lend_edges : List Case
lend_edges =
    -- a mark and no booking: C is not touched, and the slot does not come up when its position comes round
    follows one_share (lend 1 0 ∷ grant 0 1 ∷ grant 0 4 ∷ refuse 0 11 ∷ serve 0 ∷ idle ∷ idle ∷ serve 0 ∷ idle ∷ idle ∷ idle ∷ idle ∷ [])
    -- the cell is held at a later position only
    ∷ follows one_cell (grant 0 1 ∷ deny 1 18 ∷ [])
    -- the cell is held at the current position, 2, and at no later one; at 3 it is free
    ∷ follows one_cell (grant 0 1 ∷ credit 0 3 ∷ serve 0 ∷ idle ∷ deny 1 18 ∷ idle ∷ lend 1 0 ∷ [])
    -- a lent cell is held from the current position on: at CP it can't fall free, and after CP once
    ∷ follows listing (lend 1 0 ∷ reject 0 0 14 ∷ credit 0 1 ∷ reject 0 1 15 ∷ [])
    -- and a request finds it held
    ∷ follows one_cell (lend 1 0 ∷ refuse 0 12 ∷ credit 0 6 ∷ grant 0 6 ∷ [])
    -- 17 after a lend until the tick, and at a booked slot; neither a booking nor a credit takes the mark off
    ∷ follows listing (lend 1 0 ∷ credit 0 1 ∷ deny 1 17 ∷ [])
    ∷ follows listing (lend 1 0 ∷ deny 2 17 ∷ grant 0 1 ∷ deny 2 17 ∷ serve 0 ∷ deny 2 17 ∷ idle ∷ lend 2 1 ∷ [])
    -- the empty mask; a bit at n or above comes first, then the slot, then the flows
    ∷ follows listing (deny 0 18 ∷ deny 4 8 ∷ deny 7 8 ∷ grant 0 1 ∷ serve 0 ∷ deny 4 8 ∷ deny 0 17 ∷ [])
    -- either flow of a mask, in turn
    ∷ follows listing (lend 3 0 ∷ [])
    ∷ follows listing (lend 3 0 ∷ idle ∷ lend 3 1 ∷ [])
    -- a flow that can't take it, or that the mask doesn't have, is passed over, whosever turn it is
    ∷ follows listing (grant 0 1 ∷ grant 0 2 ∷ deny 1 18 ∷ lend 3 1 ∷ [])
    ∷ follows listing (lend 1 0 ∷ idle ∷ lend 1 0 ∷ idle ∷ lend 2 1 ∷ idle ∷ lend 2 1 ∷ [])
    -- 16 flows: bit 15 is a flow, and only a mask of more than 16 bits has one at 16
    ∷ follows (plan_of_many 16) (deny 65536 8 ∷ lend 32768 15 ∷ [])
    -- lent cells are held on over a frame change, going round: at slot 5 one is free again
    ∷ follows listing (lend 1 0 ∷ idle ∷ lend 1 0 ∷ idle ∷ deny 1 18 ∷ idle ∷ idle ∷ deny 1 18 ∷ credit 0 5 ∷ deny 1 18 ∷ idle ∷ lend 1 0 ∷ [])
    -- F = 1: the slot after each tick is idle, and its four cells run out
    ∷ follows single (lend 1 0 ∷ idle ∷ lend 1 0 ∷ idle ∷ lend 1 0 ∷ idle ∷ lend 1 0 ∷ idle ∷ deny 1 18 ∷ [])
    -- the last slot of the window's last frame
    ∷ follows listing (idles 7 (lend 2 1 ∷ grant 1 0 ∷ refuse 1 12 ∷ []))
    ∷ []
