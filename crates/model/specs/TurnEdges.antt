-- Edges of lends in turn. RULES 9.3 and 9.4. Assumes nothing.
--
-- What each comes to is worked out from the rules. Masks of three flows: 1 is flow 0, 2 is flow 1, 4 is flow 2, 7 all.
use Rattle.std.specs.Prelude.{List, ◌∷◌, []}
use Rattle.model.specs.PlanBytes.{plan3, plan_of_many, single}
use Rattle.model.specs.EdgeCases.{Case, grant, credit, serve, idle, lend, deny, grant_reset, decline, follows}

unfoldable pub turn_edges : List Case
turn_edges =
    -- RULES 9.4: the flow after the one that got the slot, which is not the one after the flow that was looked from
    follows (plan3 8) (lend 4 2 ∷ idle ∷ lend 3 0 ∷ [])
    -- one flow after the other, and after flow n - 1 flow 0: with three flows, with sixteen and with one
    ∷ follows (plan3 8) (lend 7 0 ∷ idle ∷ lend 7 1 ∷ idle ∷ lend 7 2 ∷ idle ∷ lend 7 0 ∷ idle ∷ lend 7 1 ∷ [])
    ∷ follows (plan_of_many 16) (lend 32768 15 ∷ idle ∷ lend 32767 0 ∷ idle ∷ lend 32767 1 ∷ [])
    ∷ follows single (lend 1 0 ∷ idle ∷ lend 1 0 ∷ [])
    -- going round it may come back to the last one lent to, and goes on after it
    ∷ follows (plan3 8) (lend 1 0 ∷ idle ∷ lend 1 0 ∷ idle ∷ lend 7 1 ∷ [])
    -- over changing masks
    ∷ follows (plan3 8) (lend 6 1 ∷ idle ∷ lend 5 2 ∷ idle ∷ lend 6 1 ∷ idle ∷ lend 3 0 ∷ idle ∷ lend 5 2 ∷ idle ∷ lend 5 0 ∷ idle ∷ lend 6 1 ∷ [])
    -- refused lends leave it, with 17, 18 and 8
    ∷ follows (plan3 8) (lend 1 0 ∷ deny 7 17 ∷ idle ∷ lend 7 1 ∷ [])
    ∷ follows (plan3 8) (lend 1 0 ∷ idle ∷ deny 0 18 ∷ deny 8 8 ∷ lend 7 1 ∷ [])
    -- so do requests, credits, and ticks with a frame change
    ∷ follows (plan3 8) (lend 1 0 ∷ credit 0 1 ∷ grant 0 1 ∷ grant 1 2 ∷ serve 0 ∷ serve 1 ∷ idle ∷ idle ∷ lend 7 1 ∷ [])
    -- a flow whose turn it is but that can't take the slot is passed over, and has no turn more for it
    ∷ follows (plan3 1) (lend 7 0 ∷ grant 1 1 ∷ serve 1 ∷ deny 7 17 ∷ idle ∷ lend 7 2 ∷ idle ∷ lend 7 0 ∷ credit 1 4 ∷ idle ∷ lend 7 1 ∷ idle ∷ lend 7 2 ∷ [])
    -- a granted reset begins with flow 0 again, each time; a refused one leaves it
    ∷ follows (plan3 8) (lend 1 0 ∷ credit 0 1 ∷ idle ∷ grant_reset ∷ lend 7 0 ∷ credit 0 2 ∷ idle ∷ grant_reset ∷ lend 7 0 ∷ [])
    ∷ follows (plan3 8) (lend 1 0 ∷ decline 23 ∷ idle ∷ decline 23 ∷ lend 7 1 ∷ [])
    ∷ []
