-- Edges of quantum numbers. RULES 5.2 and 5.3. Assumes nothing.
--
-- What each comes to is worked out from the rules. That 0 comes after 1,023 is an edge of images, and `after-1023` of BadNumbers. Where a row says no
-- more, F = 4 and W = 2; the arguments of `refuse_as` are the flow, the quantum number and the departure of the word, and the refusal.
use Rattle.std.specs.Prelude.{List, ◌∷◌, []}
use Rattle.model.specs.Calls.{requested, accepted, refused}
use Rattle.model.specs.PlanBytes.{listing, roomy, single}
use Rattle.model.specs.EdgeCases.{Case, grant, refuse, refuse_from, refuse_as, credit, reject, serve, idle, idles, lend, deny, grant_reset, decline}
use Rattle.model.specs.EdgeCases.{plays, follows}

unfoldable pub number_edges : List Case
number_edges =
    -- 0 when fresh, and no other
    follows listing (refuse_as 0 1 0 24 ∷ refuse_as 0 1023 0 24 ∷ refuse_as 0 512 0 24 ∷ grant 0 1 ∷ [])
    -- one more after a grant: the same again is one behind, and 2 is one ahead
    ∷ follows listing (grant 0 1 ∷ refuse_as 0 0 0 24 ∷ refuse_as 0 2 0 24 ∷ grant 0 2 ∷ [])
    -- 24 before 11, and 10 before 24: the share is spent
    ∷ follows single (grant 0 1 ∷ refuse_as 0 0 0 24 ∷ refuse_as 0 1 0 11 ∷ refuse_as 0 0 2 10 ∷ [])
    -- 24 before 12, with both cells held
    ∷ follows listing (grant 0 1 ∷ grant 0 2 ∷ refuse_as 0 0 0 24 ∷ refuse 0 12 ∷ [])
    -- 24 before 20, and the link is unchanged: the flow's frame has not moved, so that 1 is granted and not 4
    ∷ follows listing (refuse_as 0 1 7 24 ∷ grant 0 1 ∷ [])
    -- nor in the newest frame: after 12 C is the share, 24 leaves it, and two are booked there
    ∷ follows listing (grant 0 1 ∷ grant 0 2 ∷ refuse 0 12 ∷ refuse_as 0 3 0 24 ∷ credit 0 4 ∷ grant 0 4 ∷ credit 0 5 ∷ grant 0 5 ∷ [])
    -- 8 and 9 come first: flow 2 of two, for which no number is kept, and node 8, each with number 1
    ∷ plays listing (requested 0x24200400 (refused 8) ∷ requested 0x20000400 (refused 9) ∷ requested 0x24000000 (accepted 0x24000001) ∷ [])
    -- 8 and 9 leave the number, and so do 10, 11, 12 and 20
    ∷ plays listing (requested 0x24200000 (refused 8) ∷ requested 0x20000000 (refused 9) ∷ requested 0x24000008 (refused 10) ∷ requested 0x24000400 (refused 24) ∷ [])
    ∷ follows single (grant 0 1 ∷ refuse 0 11 ∷ refuse 0 11 ∷ serve 0 ∷ refuse_as 0 2 1 24 ∷ grant 0 0 ∷ [])
    ∷ follows listing (grant 0 1 ∷ grant 0 2 ∷ refuse 0 12 ∷ credit 0 4 ∷ refuse_as 0 3 0 24 ∷ grant 0 4 ∷ [])
    ∷ follows listing (refuse_from 0 7 20 ∷ refuse_as 0 1 0 24 ∷ grant 0 4 ∷ [])
    -- each flow has its own: flow 1 begins with 0, and the number of flow 0 is not its own
    ∷ follows roomy (grant 0 1 ∷ grant 0 2 ∷ refuse_as 1 2 0 24 ∷ grant 1 3 ∷ refuse_as 0 1 0 24 ∷ refuse_as 1 2 0 24 ∷ grant 0 4 ∷ grant 1 5 ∷ [])
    -- a lend leaves it, to this flow and to another, answered or refused
    ∷ follows listing (lend 1 0 ∷ refuse_as 0 1 0 24 ∷ grant 0 1 ∷ deny 2 17 ∷ serve 0 ∷ idle ∷ lend 2 1 ∷ refuse_as 1 1 2 24 ∷ grant 1 3 ∷ [])
    -- a credit leaves it, taken or refused
    ∷ follows listing (grant 0 1 ∷ credit 0 1 ∷ reject 0 1 15 ∷ refuse_as 0 0 0 24 ∷ refuse_as 0 2 0 24 ∷ grant 0 2 ∷ [])
    -- a tick leaves it, frame changes too: the flow's frame is the old head, and then it is not
    ∷ follows listing (grant 0 1 ∷ serve 0 ∷ idle ∷ idle ∷ idle ∷ refuse_as 0 0 4 24 ∷ grant 0 5 ∷ [])
    ∷ follows roomy (grant 0 1 ∷ grant 0 2 ∷ grant 0 4 ∷ serve 0 ∷ serve 0 ∷ idle ∷ serve 0 ∷ refuse_as 0 0 4 24 ∷ grant 0 5 ∷ [])
    -- a reset leaves it, granted or refused
    ∷ follows listing (grant 0 1 ∷ credit 0 1 ∷ decline 23 ∷ refuse_as 0 0 0 24 ∷ serve 0 ∷ grant_reset ∷ refuse_as 0 0 1 24 ∷ grant 0 2 ∷ [])
    -- and each flow's own
    ∷ follows listing (grant 0 1 ∷ grant 1 2 ∷ credit 1 2 ∷ credit 0 1 ∷ serve 0 ∷ serve 1 ∷ grant_reset ∷ refuse_as 1 0 2 24 ∷ grant 1 3 ∷ grant 0 4 ∷ [])
    -- a wrong number, then the tile comes and is granted with the right one
    ∷ follows listing (refuse_as 0 1 7 24 ∷ idles 7 (grant 0 0 ∷ []))
    ∷ []
