-- Edges of request, credit and tick, and of the granted word. Assumes nothing.
--
-- What each comes to is worked out from RULES 5.1 to 8.3. Where a row says no more, F = 4 and W = 2, so that T = 8, and the frames' positions are 0
-- to 3 and 4 to 7. Slips 1 to 3 are those of WrongSchedulers.antt.
use Rattle.std.specs.Prelude.{ℕ, List, ◌∷◌, []}
use Rattle.model.specs.Calls.{requested, accepted, refused}
use Rattle.model.specs.PlanBytes.{entry, plan, plan1, plan2, listing, roomy, single}
use Rattle.model.specs.EdgeCases.{Trial, Outcome, Case, Answered, grant, refuse, credit, reject, serve, idle, idles, plays, follows}

-- F = 4, W = 2, two flows with shares 1 and 3 and room for all of them
abbrev one_and_three : List ℕ
one_and_three = plan2 4 2 16 1 8 3 8

-- F = 4, W = 2, three flows with share 1 and 2 cells
abbrev three_flows : List ℕ
three_flows = plan 4 2 8 (entry 1 2 1 9 ∷ entry 1 2 2 9 ∷ entry 1 2 3 9 ∷ [])

-- F = 2, W = 3, share 1: from frame 1 the walk takes 3, 4 and 0, and after the next frame change 2; each comes up once
abbrev three_frames : List Answered
three_frames =
    idle ∷ idle ∷ grant 0 3 ∷ grant 0 4 ∷ grant 0 0 ∷ refuse 0 11 ∷ serve 0 ∷ serve 0 ∷ grant 0 2 ∷ idle ∷ serve 0 ∷ idle ∷ serve 0 ∷ []

unfoldable pub call_edges : List Case
call_edges =
    -- 8: flow 2 of a plan with two; flow 63
    plays listing (requested 0x24200000 (refused 8) ∷ requested 0x27F00000 (refused 8) ∷ requested 0x24000000 (accepted 0x24000001) ∷ [])
    -- 9: node 8; and where flow 1's node is 8, node 9 for flow 1
    ∷ plays listing (requested 0x20000000 (refused 9) ∷ requested 0x24000000 (accepted 0x24000001) ∷ [])
    ∷ plays (plan 4 2 8 (entry 2 2 1 9 ∷ entry 2 2 2 8 ∷ [])) (requested 0x24100000 (refused 9) ∷ requested 0x20100000 (accepted 0x20100001) ∷ [])
    -- 10: departures 256 and 1,023
    ∷ plays listing (requested 0x24000100 (refused 10) ∷ requested 0x240003FF (refused 10) ∷ requested 0x24000000 (accepted 0x24000001) ∷ [])
    -- departure T gives 10; T - 1 passes, and no position is later than it
    ∷ plays listing (requested 0x24000008 (refused 10) ∷ requested 0x24000007 (refused 20) ∷ [])
    -- faults 8 and 9; 9 and 10; 10 and 11
    ∷ plays listing (requested 0x20200000 (refused 8) ∷ requested 0x20000008 (refused 9) ∷ [])
    ∷ plays single (requested 0x24000000 (accepted 0x24000001) ∷ requested 0x24000402 (refused 10) ∷ requested 0x24000400 (refused 11) ∷ [])
    -- a granted position replaces the departure and leaves flow, quantum and destination
    ∷ record { trial = Trial.granting 0x240FFC07 1; expected = Outcome.word 0x240FFC01 }
    ∷ record { trial = Trial.granting 0xFFFFFFFF 0; expected = Outcome.word 0xFFFFFC00 }
    -- each flow has its own cells: with 1 and 3 of them, flow 0 books once and flow 1 three times
    ∷ follows (plan2 4 2 4 2 1 2 3) (grant 0 1 ∷ refuse 0 12 ∷ grant 1 2 ∷ grant 1 3 ∷ grant 1 4 ∷ refuse 1 12 ∷ [])
    -- each flow has its own share: with 1 and 3, flow 0 books one position of each frame and flow 1 the other three that are left
    ∷ follows one_and_three (grant 0 1 ∷ grant 0 4 ∷ refuse 0 11 ∷ grant 1 2 ∷ grant 1 3 ∷ grant 1 5 ∷ grant 1 6 ∷ grant 1 7 ∷ refuse 1 11 ∷ [])
    -- a frame whose positions are all booked is walked past: F = 2, shares 1 and 1, and the head frame has position 1 alone
    ∷ follows (plan2 2 2 8 1 4 1 4) (grant 0 1 ∷ grant 1 2 ∷ grant 0 3 ∷ refuse 0 11 ∷ refuse 1 11 ∷ [])
    -- C stays 0 after 11: two positions in each of two frames
    ∷ follows roomy (grant 0 1 ∷ grant 0 2 ∷ grant 0 4 ∷ grant 0 5 ∷ refuse 0 11 ∷ refuse 0 11 ∷ [])
    -- C is the share in the next frame, though 1 was left in this one, which has no position after CP = 3
    ∷ follows roomy (grant 0 1 ∷ serve 0 ∷ idle ∷ idle ∷ grant 0 4 ∷ grant 0 5 ∷ refuse 0 11 ∷ [])
    -- C is the share after 12 in the newest frame: two more are booked there as cells fall free, then 11 with a cell free
    ∷ follows listing (grant 0 1 ∷ grant 0 2 ∷ refuse 0 12 ∷ credit 0 4 ∷ grant 0 4 ∷ credit 0 5 ∷ grant 0 5 ∷ credit 0 6 ∷ refuse 0 11 ∷ [])
    -- T = 256: a credit dated 255 is taken once, and then the flow holds 0 there; 256 is no position
    ∷ follows (plan2 64 4 4 2 2 2 2) (grant 0 1 ∷ credit 0 255 ∷ reject 0 255 15 ∷ reject 0 256 13 ∷ [])
    -- credits, 8 and 13: flow 2 of two, position 8 = T, and both; one dated 7 is taken once, and then none from 1 on
    ∷ follows listing (grant 0 1 ∷ reject 2 1 8 ∷ reject 2 8 8 ∷ reject 0 8 13 ∷ reject 0 65535 13 ∷ credit 0 7 ∷ reject 0 7 15 ∷ reject 0 1 15 ∷ [])
    -- 14: before CP and at CP, though the flow holds a cell at CP; after CP the credit is taken
    ∷ follows listing (grant 0 1 ∷ grant 0 2 ∷ serve 0 ∷ reject 0 0 14 ∷ reject 0 1 14 ∷ credit 0 2 ∷ [])
    -- 14 in a head frame that is not frame 0: positions 4 and 5 at CP = 5; 6 is later, 0 and 3 lie in the newest frame
    ∷ follows listing (idles 5 (reject 0 4 14 ∷ reject 0 5 14 ∷ reject 0 6 15 ∷ reject 0 0 15 ∷ reject 0 3 15 ∷ grant 0 6 ∷ []))
    -- 15 because the flow doesn't hold there, though it does from 2 on
    ∷ follows listing (grant 1 1 ∷ grant 0 2 ∷ reject 0 1 15 ∷ credit 0 2 ∷ [])
    -- slip 1, a credit tested at its own position: both cells are free from 5 on, so that none can fall free from 2 on
    ∷ follows listing (grant 0 1 ∷ grant 0 2 ∷ credit 0 5 ∷ credit 0 5 ∷ reject 0 2 15 ∷ [])
    -- slip 1, in between: from 2 on the flow holds 2, at 3 it holds 0, and from 4 on 1
    ∷ follows listing (grant 0 1 ∷ grant 0 2 ∷ credit 0 3 ∷ credit 0 3 ∷ grant 0 4 ∷ reject 0 2 15 ∷ credit 0 4 ∷ [])
    -- slip 1, going round: in the head frame 4 to 7, position 1 is later than 6, 7 and 0, where the flow holds 2
    ∷ follows listing (idles 4 (grant 0 5 ∷ grant 0 6 ∷ credit 0 1 ∷ credit 0 1 ∷ reject 0 6 15 ∷ reject 0 7 15 ∷ reject 0 0 15 ∷ []))
    -- going round: what is booked at 5 is held at 1, once
    ∷ follows listing (idles 4 (grant 0 5 ∷ credit 0 1 ∷ reject 0 1 15 ∷ []))
    -- slip 2, the last frame's walk: at CP = 7 it has no position left, and the search goes round to 0
    ∷ follows listing (idles 7 (grant 0 0 ∷ []))
    -- slip 2, the last frame's positions are booked: F = 2, W = 2, and flow 1 finds frame 1 full at CP = 2
    ∷ follows (plan2 2 2 8 1 4 1 4) (idle ∷ idle ∷ grant 0 3 ∷ grant 1 0 ∷ [])
    -- slip 2, the walk over frames: from frame 1 it goes round to the newest frame, frame 0
    ∷ follows roomy (idles 4 (grant 0 5 ∷ grant 0 6 ∷ grant 0 0 ∷ grant 0 1 ∷ refuse 0 11 ∷ []))
    -- the newest frame is frame 0, then frame 1 again
    ∷ follows single (grant 0 1 ∷ serve 0 ∷ grant 0 0 ∷ refuse 0 11 ∷ serve 0 ∷ grant 0 1 ∷ [])
    -- three frames of two slots, share 1
    ∷ follows (plan1 2 3 6 1 6) three_frames
    -- slip 3, holdings dropped with their frame: two cells are held on past the frame change, until one falls free from 6 on
    ∷ follows listing (grant 0 1 ∷ grant 0 2 ∷ serve 0 ∷ serve 0 ∷ idle ∷ idle ∷ refuse 0 12 ∷ credit 0 6 ∷ grant 0 0 ∷ refuse 0 12 ∷ [])
    -- a frame that comes round again has the holdings of the window's end, 0, and not those that stood there, 1 and 2
    ∷ follows listing (grant 0 1 ∷ grant 0 2 ∷ credit 0 5 ∷ credit 0 5 ∷ serve 0 ∷ serve 0 ∷ idle ∷ idle ∷ grant 0 5 ∷ [])
    -- the same at the second frame change: the window's end is then position 3, where 0 is held, and not 7, where 2 are held
    ∷ follows listing (idles 4 (grant 0 5 ∷ grant 0 6 ∷ credit 0 1 ∷ credit 0 1 ∷ serve 0 ∷ serve 0 ∷ idle ∷ idle ∷ grant 0 1 ∷ []))
    -- the old head's positions are emptied: positions 1 and 2 come round idle
    ∷ follows listing (grant 0 1 ∷ serve 0 ∷ grant 1 2 ∷ serve 1 ∷ idle ∷ idle ∷ credit 0 5 ∷ idle ∷ idle ∷ idle ∷ idle ∷ idle ∷ idle ∷ [])
    -- at a frame change a flow with IF = HF gets its share anew, though its C was 1: it books 5 and 6 before 0
    ∷ follows roomy (grant 0 1 ∷ serve 0 ∷ idle ∷ idle ∷ idle ∷ grant 0 5 ∷ grant 0 6 ∷ grant 0 0 ∷ [])
    -- a flow whose IF is not HF keeps its C of 1: it books 5 and then 0; and its booking at 4, in the new head frame, comes up
    ∷ follows roomy (grant 0 1 ∷ grant 0 2 ∷ grant 0 4 ∷ serve 0 ∷ serve 0 ∷ idle ∷ serve 0 ∷ grant 0 5 ∷ credit 0 5 ∷ grant 0 0 ∷ [])
    -- a cell falls free from the credit's date on and not before: with both held, 4 and 5 are full
    ∷ follows listing (grant 0 1 ∷ grant 0 2 ∷ credit 0 6 ∷ grant 0 6 ∷ [])
    -- flow 1's own credits and holdings
    ∷ follows listing (grant 1 1 ∷ grant 1 2 ∷ reject 0 2 15 ∷ credit 1 5 ∷ credit 1 5 ∷ reject 1 5 15 ∷ [])
    ∷ follows listing (grant 1 1 ∷ grant 1 2 ∷ serve 1 ∷ serve 1 ∷ idle ∷ idle ∷ refuse 1 12 ∷ [])
    -- at a frame change flow 1 gets its own share of 3, and moves though flow 0's IF is not HF
    ∷ follows one_and_three (idles 4 (grant 1 5 ∷ grant 1 6 ∷ grant 1 7 ∷ grant 1 0 ∷ grant 1 1 ∷ grant 1 2 ∷ refuse 1 11 ∷ []))
    ∷ follows roomy (grant 0 1 ∷ grant 0 2 ∷ grant 0 4 ∷ serve 0 ∷ serve 0 ∷ idle ∷ serve 0 ∷ grant 1 5 ∷ [])
    -- three frames: the recycled frame takes the holding of the window's end, 0, and not of the second frame's, 2
    ∷ follows (plan1 2 3 4 2 2) (grant 0 1 ∷ grant 0 2 ∷ credit 0 4 ∷ credit 0 4 ∷ serve 0 ∷ serve 0 ∷ grant 0 4 ∷ [])
    -- three flows
    ∷ follows three_flows (grant 2 1 ∷ grant 2 4 ∷ refuse 2 11 ∷ grant 1 2 ∷ serve 2 ∷ serve 1 ∷ idle ∷ serve 2 ∷ credit 2 5 ∷ grant 2 0 ∷ [])
    -- the quantum number is tested: the same again after a grant gives 24, and so does another
    ∷ plays listing (requested 0x24000000 (accepted 0x24000001) ∷ requested 0x24000000 (refused 24) ∷ requested 0x240FFC00 (refused 24) ∷ [])
    -- 8 though node 0 is that of an entry past the last
    ∷ plays listing (requested 0x00200000 (refused 8) ∷ [])
    ∷ []
