-- Edges of bursts. RULES 11.1 and 11.2. Assumes nothing.
--
-- What each comes to is worked out from the rules. Where a row says no more, each flow's words carry the numbers of its quanta; T is 8 but for
-- `single`.
use Rattle.std.specs.Prelude.{ℕ, List, ◌∷◌, [], ◌++◌, replicate}
use Rattle.std.proofs.Math.Option.{some, none}
use Rattle.model.specs.Calls.{Call, Event, requested, ticked, lent, accepted, refused}
use Rattle.model.specs.Burst.{BurstRecord}
use Rattle.model.specs.PlanBytes.{listing, roomy, single, one_share}
use Rattle.model.specs.EdgeCases.{Case, word_of, fills}

-- a record after the burst: its word's flow, quantum and departure, and what stands beside the word
abbrev gets : (flow quantum departure position : ℕ) → BurstRecord
gets flow quantum departure position = record { word = word_of flow quantum departure; result = 0; position = position }

abbrev fails : (flow quantum departure number : ℕ) → BurstRecord
fails flow quantum departure number = record { word = word_of flow quantum departure; result = number; position = 0 }

abbrev untouched : (flow quantum departure : ℕ) → BurstRecord
untouched flow quantum departure = record { word = word_of flow quantum departure; result = 255; position = 255 }

unfoldable pub burst_edges : List Case
burst_edges =
    -- no records: the same link
    fills listing [] [] (requested (word_of 0 0 0) (accepted (word_of 0 0 1)) ∷ [])
    -- in order, and on after a refusal; the words are not written, and the link is that of the single requests
    ∷ fills listing [] (gets 0 0 0 1 ∷ gets 0 1 0 2 ∷ fails 0 2 0 12 ∷ fails 0 2 0 12 ∷ [])
    (requested (word_of 1 0 0) (accepted (word_of 1 0 3)) ∷ requested (word_of 0 2 0) (refused 12) ∷ ticked (some 0) ∷ ticked (some 0) ∷ ticked (some 1) ∷ [])
    -- each record finds what those before it booked
    ∷ fills listing [] (gets 0 0 0 1 ∷ gets 1 0 0 2 ∷ gets 0 1 0 3 ∷ gets 1 1 0 4 ∷ []) (requested (word_of 1 2 0) (refused 12) ∷ [])
    -- the number moves within a burst: one behind, that of the other flow, and one behind again are refused with 24
    ∷ fills listing []
    (gets 0 0 0 1 ∷ fails 0 0 0 24 ∷ gets 0 1 0 2 ∷ fails 1 1 0 24 ∷ gets 1 0 0 3 ∷ fails 0 1 0 24 ∷ fails 0 2 0 12 ∷ [])
    (requested (word_of 0 1 0) (refused 24) ∷ requested (word_of 1 1 0) (accepted (word_of 1 1 4)) ∷ [])
    -- a grant of position 0 and a refusal differ in the result alone
    ∷ fills listing (replicate 7 Call.tick) (gets 0 0 7 0 ∷ []) (ticked (some 0) ∷ [])
    ∷ fills listing (replicate 7 Call.tick) (fails 0 0 8 10 ∷ []) (ticked none ∷ [])
    -- refusals by the word alone stand among grants
    ∷ fills listing []
    (fails 2 0 0 8 ∷ gets 0 0 0 1 ∷ fails 0 1 8 10 ∷ record { word = 0; result = 9; position = 0 } ∷ gets 0 1 0 2 ∷ [])
    (requested (word_of 1 0 0) (accepted (word_of 1 0 3)) ∷ [])
    -- each record has its own departure: later than 3 there is nothing in the head frame, and flow 0 stays in the next
    ∷ fills listing [] (gets 0 0 3 4 ∷ gets 0 1 0 5 ∷ fails 0 2 0 11 ∷ gets 1 0 2 3 ∷ fails 1 1 7 20 ∷ gets 1 1 0 6 ∷ [])
    (requested (word_of 1 2 0) (refused 12) ∷ [])
    -- 11 within a burst
    ∷ fills single [] (gets 0 0 0 1 ∷ fails 0 1 0 11 ∷ fails 0 1 0 11 ∷ []) (ticked (some 0) ∷ requested (word_of 0 1 1) (accepted (word_of 0 1 0)) ∷ [])
    -- 16 records are handled
    ∷ fills roomy [] (replicate 15 (fails 2 0 0 8) ++ gets 0 0 0 1 ∷ []) (requested (word_of 1 0 0) (accepted (word_of 1 0 2)) ∷ [])
    -- and a 17th is not: it keeps all three, and books nothing
    ∷ fills roomy [] (replicate 16 (fails 2 0 0 8) ++ untouched 0 0 0 ∷ []) (requested (word_of 1 0 0) (accepted (word_of 1 0 1)) ∷ [])
    ∷ fills roomy []
    (gets 0 0 0 1 ∷ gets 0 1 0 2 ∷ gets 1 0 0 3 ∷ replicate 13 (fails 2 0 0 8) ++ untouched 0 2 0 ∷ untouched 1 1 0 ∷ untouched 2 0 0 ∷ untouched 0 0 0 ∷ [])
    (requested (word_of 0 2 0) (accepted (word_of 0 2 4)) ∷ [])
    -- right after a granted reset: slot 1 was booked and stays marked, and with a share of 1 the head frame has one more
    ∷ fills one_share (Call.request (word_of 0 0 0) ∷ Call.credit 0 1 ∷ Call.tick ∷ Call.reset ∷ []) (gets 0 1 1 2 ∷ gets 0 2 1 4 ∷ fails 0 3 1 11 ∷ [])
    (lent 1 (refused 17) ∷ Event.reset (refused 23) ∷ ticked (some 0) ∷ [])
    -- a reset right after a burst: 23 where it booked, and else every flow is back in the head frame
    ∷ fills listing [] (fails 0 0 7 20 ∷ gets 1 0 0 1 ∷ []) (Event.reset (refused 23) ∷ requested (word_of 0 0 0) (accepted (word_of 0 0 4)) ∷ [])
    ∷ fills listing [] (fails 0 0 7 20 ∷ fails 1 0 7 20 ∷ []) (Event.reset (accepted tt) ∷ requested (word_of 0 0 0) (accepted (word_of 0 0 1)) ∷ [])
    ∷ []
