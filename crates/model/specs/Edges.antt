-- The one table of edge cases: the first ones, marked P, and more, by plan, calls, departures, numbers, lends, turns, resets, bursts and program,
-- that tell wrong readings apart. Assumes nothing.
use Rattle.std.specs.Prelude.{List, ◌∷◌, [], ◌++◌}
use Rattle.std.proofs.Math.Option.{some}
use Rattle.model.specs.Calls.{Event, requested, credited, ticked, accepted, refused}
use Rattle.model.specs.PlanBytes.{plan2, listing, single}
use Rattle.model.specs.EdgeCases.{Trial, Outcome, Case, Answered, grant, refuse, credit, reject, idles, accepts, refuses, plays, follows}
use Rattle.model.specs.PlanEdges.{plan_edges}
use Rattle.model.specs.CallEdges.{call_edges}
use Rattle.model.specs.DepartureEdges.{departure_edges}
use Rattle.model.specs.NumberEdges.{number_edges}
use Rattle.model.specs.LendEdges.{lend_edges}
use Rattle.model.specs.TurnEdges.{turn_edges}
use Rattle.model.specs.WriteEdges.{write_edges}
use Rattle.model.specs.ResetEdges.{reset_edges}
use Rattle.model.specs.BurstEdges.{burst_edges}
use Rattle.model.specs.ProgramEdges.{program_edges}

-- ---- the first edges, marked P

-- RULES 13.6: the events of its lines
abbrev listing_events : List Event
listing_events =
    requested 0x24000000 (accepted 0x24000001) ∷ requested 0x24000400 (accepted 0x24000402) ∷ requested 0x24000800 (refused 12)
    ∷ credited 0 4 (accepted tt) ∷ requested 0x24000800 (accepted 0x24000804) ∷ requested 0x24100000 (accepted 0x24100003) ∷ ticked (some 0) ∷ []

-- RULES 2.1: four frames, in which each flow has cells of its own
abbrev four_frames : List Answered
four_frames =
    grant 0 1 ∷ grant 0 2 ∷ refuse 0 12 ∷ credit 0 3 ∷ credit 0 3 ∷ grant 0 12 ∷ grant 0 13 ∷ grant 1 3 ∷ grant 1 4 ∷ refuse 1 12 ∷ []

unfoldable pub marked_edges : List Case
marked_edges =
    -- P: the listing's seven calls
    plays listing listing_events
    -- P: the four-frame run
    ∷ follows (plan2 4 4 4 2 2 2 2) four_frames
    -- P: T = 256 is accepted, T = 320 not
    ∷ accepts (plan2 64 4 4 2 2 2 2)
    ∷ refuses 3 (plan2 64 5 4 2 2 2 2)
    -- P: shares 2 and 2 in a frame of 4, and cells 2 and 2 in a buffer of 4
    ∷ accepts (plan2 4 2 4 2 2 2 2)
    -- P: shares 2 and 3 in a frame of 4
    ∷ refuses 6 (plan2 4 2 4 2 2 3 2)
    -- P: cells 2 and 2 in a buffer of 3
    ∷ refuses 7 (plan2 4 2 3 2 2 2 2)
    -- P: on a fresh link, a credit dated 1
    ∷ follows listing (reject 0 1 15 ∷ [])
    -- P: on a fresh link, a credit dated CP
    ∷ follows listing (reject 0 0 14 ∷ [])
    -- P: at CP = 3 an untouched flow books 4
    ∷ follows listing (idles 3 (grant 0 4 ∷ []))
    -- P: the granted word
    ∷ record { trial = Trial.granting 0x24000000 1; expected = Outcome.word 0x24000001 }
    -- P: F = 1, W = 2, share 1
    ∷ follows single (grant 0 1 ∷ refuse 0 11 ∷ [])
    ∷ []

-- ---- all of them

unfoldable pub edges : List Case
unfolding marked_edges plan_edges call_edges departure_edges number_edges lend_edges turn_edges write_edges reset_edges burst_edges program_edges
edges = marked_edges ++ plan_edges ++ call_edges ++ departure_edges ++ number_edges ++ lend_edges ++ turn_edges ++ write_edges ++ reset_edges ++ burst_edges ++ program_edges
