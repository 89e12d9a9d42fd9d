-- Edges of images: when they are taken, and what the calls on them leave. RULES 12.1 to 12.6. Assumes nothing.
--
-- What each comes to is worked out from the rules. The images are those of the listing's plan: F = 4, W = 2, T = 8, two flows with share 2 and 2
-- cells.
use Rattle.std.specs.Prelude.{ℕ, List, ◌∷◌, [], ◌++◌, take, drop, replicate}
use Rattle.model.specs.Calls.{Call}
use Rattle.model.specs.Tables.{table}
use Rattle.model.specs.PlanBytes.{entry, plan, plan2, listing, single}
use Rattle.imagemodel.specs.Exports.{refusal_number}
use Rattle.imagemodel.specs.ImageCases.{Case, blank, image, measures, passes, fault, gives, leaves, turns_back, freshly, chained}
use Rattle.imagemodel.specs.ImageCases.{total, plan_offset, positions_offset, position_count, flows_offset, flow_count, current, mark, turn, owner, frame, left, held, expected}

-- three bytes past an image
abbrev past : List ℕ
past = 0xAA ∷ 0xBB ∷ 0xCC ∷ []

-- flow 0's first words, with quantum numbers 0 to 2, and flow 1's first
abbrev word0 : ℕ
word0 = 0x24000000

abbrev word1 : ℕ
word1 = 0x24000400

abbrev word2 : ℕ
word2 = 0x24000800

abbrev other0 : ℕ
other0 = 0x24100000

-- what stands after the header, without the numbers that are expected
abbrev unnumbered : List ℕ
unnumbered = take 56 (drop 18 blank) ++ take 20 (drop 76 blank)

-- ---- 21 and 22

unfoldable pub length_edges : List Case
length_edges =
    -- the listing's plan; the smallest image; the longest, of 16 flows and 256 positions
    measures listing 98
    ∷ measures single 48
    ∷ measures (plan 64 4 16 (table 16 (λ i. entry 1 1 i 63))) 8894
    ∷ gives 0 blank
    ∷ gives 0 (blank ++ past)
    -- shorter than the header, and than the stated length
    ∷ gives 21 []
    ∷ gives 21 (take 17 blank)
    ∷ gives 21 (take 18 blank)
    ∷ gives 21 (take 97 blank)
    -- 99 stated in 98 bytes, whatever else is wrong; in 99 bytes it is another fault
    ∷ gives 21 (image (total 99 ∷ []))
    ∷ gives 21 (image (total 99 ∷ plan_offset 20 ∷ mark 2 ∷ []))
    ∷ gives 22 (image (total 99 ∷ []) ++ (0 ∷ []))
    -- images of earlier versions, without the flow to look from, and without numbers
    ∷ gives 22 (0x5C ∷ 0x00 ∷ 0x10 ∷ 0x00 ∷ 0x24 ∷ 0x00 ∷ 0x08 ∷ 0x00 ∷ 0x34 ∷ 0x00 ∷ 0x02 ∷ 0x00 ∷ 0x00 ∷ 0x00 ∷ 0x00 ∷ 0x00 ∷ unnumbered)
    ∷ gives 22 (0x5E ∷ 0x00 ∷ 0x12 ∷ 0x00 ∷ 0x26 ∷ 0x00 ∷ 0x08 ∷ 0x00 ∷ 0x36 ∷ 0x00 ∷ 0x02 ∷ 0x00 ∷ 0x00 ∷ 0x00 ∷ 0x00 ∷ 0x00 ∷ 0x00 ∷ 0x00 ∷ unnumbered)
    -- too small a length stated
    ∷ fault (total 96 ∷ [])
    ∷ gives 22 (take 97 (image (total 96 ∷ [])))
    ∷ fault (total 4 ∷ [])
    ∷ fault (total 0 ∷ [])
    -- the other fields of the header, 264 with the low byte of 8
    ∷ fault (plan_offset 16 ∷ [])
    ∷ fault (plan_offset 20 ∷ [])
    ∷ fault (positions_offset 40 ∷ [])
    ∷ fault (position_count 7 ∷ [])
    ∷ fault (position_count 264 ∷ [])
    ∷ fault (flows_offset 52 ∷ [])
    ∷ fault (flow_count 1 ∷ [])
    ∷ fault (flow_count 258 ∷ [])
    -- a plan that is refused with 7, its N being 3; and one that states four bytes fewer
    ∷ gives 22 (take 18 blank ++ plan2 4 2 3 2 2 2 2 ++ drop 38 blank)
    ∷ gives 22 (take 18 blank ++ (0x10 ∷ []) ++ drop 19 blank)
    ∷ []

-- ---- each condition at its edge, and broken

unfoldable pub condition_edges : List Case
condition_edges =
    -- RULES 12.3: CP is a position
    passes (current 7 ∷ [])
    ∷ fault (current 8 ∷ [])
    ∷ fault (current 256 ∷ [])
    -- IF is a frame
    ∷ passes (frame 0 1 ∷ [])
    ∷ fault (frame 0 2 ∷ [])
    ∷ fault (frame 1 2 ∷ [])
    ∷ fault (frame 0 256 ∷ [])
    -- the mark is a bit, also where CP is booked
    ∷ passes (mark 1 ∷ [])
    ∷ passes (mark 1 ∷ current 1 ∷ owner 1 0 ∷ left 0 1 ∷ [])
    ∷ fault (mark 2 ∷ [])
    ∷ fault (mark 256 ∷ [])
    -- the next lend looks from a flow
    ∷ passes (turn 1 ∷ [])
    ∷ fault (turn 2 ∷ [])
    ∷ fault (turn 256 ∷ [])
    -- owners: flow 1 of two, and none but 16
    ∷ passes (owner 7 1 ∷ frame 1 1 ∷ left 1 1 ∷ [])
    ∷ fault (owner 7 2 ∷ [])
    ∷ fault (owner 7 15 ∷ [])
    ∷ fault (owner 7 17 ∷ [])
    -- no byte of it is cut off: 256 is not flow 0, and 272 is not none
    ∷ fault (owner 7 256 ∷ [])
    ∷ fault (owner 1 256 ∷ left 0 1 ∷ [])
    ∷ fault (owner 7 272 ∷ [])
    ∷ fault (owner 0 65535 ∷ [])
    -- RULES 12.3: bookings in a frame, those that have gone by too, are no more than the share
    ∷ passes (frame 0 1 ∷ owner 1 0 ∷ owner 2 0 ∷ [])
    ∷ fault (frame 0 1 ∷ owner 1 0 ∷ owner 2 0 ∷ owner 3 0 ∷ [])
    ∷ fault (current 3 ∷ frame 0 1 ∷ owner 1 0 ∷ owner 2 0 ∷ owner 3 0 ∷ [])
    ∷ passes (frame 0 1 ∷ owner 1 0 ∷ owner 2 0 ∷ owner 3 1 ∷ left 1 1 ∷ [])
    -- RULES 12.3: no booking after IF, going round from HF: after a frame change frame 1 is HF, and frame 0 comes after it
    ∷ passes (frame 0 1 ∷ owner 4 0 ∷ left 0 1 ∷ [])
    ∷ fault (owner 4 0 ∷ [])
    ∷ passes (current 4 ∷ owner 5 0 ∷ owner 6 0 ∷ [])
    ∷ fault (current 4 ∷ frame 0 1 ∷ owner 1 0 ∷ [])
    -- RULES 12.3: bookings in IF and C make up the share, by all 16 bits
    ∷ passes (owner 1 0 ∷ left 0 1 ∷ [])
    ∷ passes (owner 1 0 ∷ owner 2 0 ∷ left 0 0 ∷ [])
    ∷ fault (owner 1 0 ∷ [])
    ∷ fault (left 0 1 ∷ [])
    ∷ fault (left 1 3 ∷ [])
    ∷ fault (left 0 258 ∷ [])
    ∷ fault (owner 1 0 ∷ owner 2 0 ∷ frame 0 0 ∷ left 0 65535 ∷ [])
    -- RULES 12.3: no position has more than the cells, nor has CP
    ∷ passes (held 0 0 2 ∷ [])
    ∷ fault (held 0 0 3 ∷ [])
    ∷ fault (held 1 0 257 ∷ [])
    ∷ fault (held 0 0 65535 ∷ [])
    -- RULES 12.3: after CP a position has no more than the one before it, or one more where the flow is its owner
    ∷ passes (owner 1 0 ∷ left 0 1 ∷ held 0 1 1 ∷ [])
    ∷ fault (held 0 1 1 ∷ [])
    ∷ fault (owner 1 0 ∷ left 0 1 ∷ held 1 1 1 ∷ [])
    ∷ fault (owner 1 0 ∷ left 0 1 ∷ held 0 1 2 ∷ [])
    -- also at the last position of the window
    ∷ fault (held 0 7 1 ∷ [])
    ∷ fault (current 4 ∷ held 0 3 1 ∷ [])
    -- it may fall, and stay, anywhere
    ∷ passes (held 0 0 2 ∷ held 0 1 2 ∷ held 0 2 1 ∷ held 0 3 1 ∷ [])
    -- the position before CP + 1 is CP
    ∷ passes (current 2 ∷ held 0 2 1 ∷ held 0 3 1 ∷ [])
    ∷ fault (current 2 ∷ held 0 3 1 ∷ [])
    -- at CP and before it in the head frame nothing is compared
    ∷ passes (current 2 ∷ held 0 0 1 ∷ held 0 2 2 ∷ [])
    ∷ passes (current 3 ∷ held 0 3 1 ∷ [])
    -- going round: with frame 1 as HF, position 0 comes after 7, and nothing is compared at CP = 4
    ∷ passes (current 4 ∷ held 0 4 1 ∷ held 0 5 1 ∷ held 0 6 1 ∷ held 0 7 1 ∷ held 0 0 1 ∷ [])
    ∷ fault (current 4 ∷ held 0 0 1 ∷ [])
    ∷ passes (current 4 ∷ held 0 4 2 ∷ [])
    ∷ passes (current 7 ∷ held 0 7 1 ∷ held 0 0 1 ∷ [])
    -- RULES 12.3: a number fits ten bits, by all 16 of its field
    ∷ passes (expected 0 1023 ∷ expected 1 7 ∷ [])
    ∷ fault (expected 0 1024 ∷ [])
    ∷ fault (expected 1 1024 ∷ [])
    ∷ fault (expected 1 1280 ∷ [])
    ∷ fault (expected 0 65535 ∷ [])
    ∷ []

-- ---- three frames of one slot, one flow, and frame 1 as HF: 1, 2, 0 is the frames' order, and IF is 2

-- the image with these owners
abbrev in_turn : (owner0 owner1 owner2 remainder : ℕ) → List ℕ
in_turn owner0 owner1 owner2 remainder =
    0x34 ∷ 0x00 ∷ 0x12 ∷ 0x00 ∷ 0x22 ∷ 0x00 ∷ 0x03 ∷ 0x00 ∷ 0x28 ∷ 0x00 ∷ 0x01 ∷ 0x00 ∷ 0x01 ∷ 0x00 ∷ 0x00 ∷ 0x00 ∷ 0x00 ∷ 0x00
    ∷ 0x10 ∷ 0x00 ∷ 0x01 ∷ 0x00 ∷ 0x0C ∷ 0x00 ∷ 0x01 ∷ 0x00 ∷ 0x03 ∷ 0x00 ∷ 0x01 ∷ 0x00 ∷ 0x01 ∷ 0x01 ∷ 0x00 ∷ 0x01
    ∷ owner0 ∷ 0x00 ∷ owner1 ∷ 0x00 ∷ owner2 ∷ 0x00
    ∷ 0x02 ∷ 0x00 ∷ remainder ∷ 0x00 ∷ 0x00 ∷ 0x00 ∷ 0x00 ∷ 0x00 ∷ 0x00 ∷ 0x00 ∷ 0x00 ∷ 0x00
    ∷ []

unfoldable pub frame_edges : List Case
frame_edges =
    gives 0 (in_turn 16 16 16 1)
    -- a booking in the frame after IF, in the one before it, and in IF itself
    ∷ gives 22 (in_turn 0 16 16 1)
    ∷ gives 0 (in_turn 16 0 16 1)
    ∷ gives 0 (in_turn 16 0 0 0)
    ∷ gives 22 (in_turn 16 16 0 1)
    ∷ []

-- ---- calls

-- after the listing's seven calls
abbrev after_listing : List ℕ
after_listing =
    0x62 ∷ 0x00 ∷ 0x12 ∷ 0x00 ∷ 0x26 ∷ 0x00 ∷ 0x08 ∷ 0x00 ∷ 0x36 ∷ 0x00 ∷ 0x02 ∷ 0x00 ∷ 0x01 ∷ 0x00 ∷ 0x00 ∷ 0x00 ∷ 0x00 ∷ 0x00
    ∷ 0x14 ∷ 0x00 ∷ 0x02 ∷ 0x00 ∷ 0x0C ∷ 0x00 ∷ 0x04 ∷ 0x00 ∷ 0x02 ∷ 0x00 ∷ 0x04 ∷ 0x00
    ∷ 0x02 ∷ 0x02 ∷ 0x01 ∷ 0x09 ∷ 0x02 ∷ 0x02 ∷ 0x02 ∷ 0x09
    -- positions 1, 2 and 4 are flow 0's, and 3 is flow 1's
    ∷ 0x10 ∷ 0x00 ∷ 0x00 ∷ 0x00 ∷ 0x00 ∷ 0x00 ∷ 0x01 ∷ 0x00 ∷ 0x00 ∷ 0x00 ∷ 0x10 ∷ 0x00 ∷ 0x10 ∷ 0x00 ∷ 0x10 ∷ 0x00
    -- flow 0 is in frame 1 with C = 1, holds 0 1 2 2 2 2 2 2, and its next word is to have number 3
    ∷ 0x01 ∷ 0x00 ∷ 0x01 ∷ 0x00
    ∷ 0x00 ∷ 0x00 ∷ 0x01 ∷ 0x00 ∷ 0x02 ∷ 0x00 ∷ 0x02 ∷ 0x00 ∷ 0x02 ∷ 0x00 ∷ 0x02 ∷ 0x00 ∷ 0x02 ∷ 0x00 ∷ 0x02 ∷ 0x00
    ∷ 0x03 ∷ 0x00
    -- flow 1 is in frame 0 with C = 1, holds 0 0 0 1 1 1 1 1, and its next word is to have number 1
    ∷ 0x00 ∷ 0x00 ∷ 0x01 ∷ 0x00
    ∷ 0x00 ∷ 0x00 ∷ 0x00 ∷ 0x00 ∷ 0x00 ∷ 0x00 ∷ 0x01 ∷ 0x00 ∷ 0x01 ∷ 0x00 ∷ 0x01 ∷ 0x00 ∷ 0x01 ∷ 0x00 ∷ 0x01 ∷ 0x00
    ∷ 0x01 ∷ 0x00
    ∷ []

-- a buffer as it comes to fresh
abbrev room : ℕ → List ℕ
room size = replicate size 0xAA

unfoldable pub export_edges : List Case
export_edges =
    -- fresh: the plan is tested first, then the buffer; what stood there is not read; bytes past the image keep their values
    freshly listing (room 98) blank 0
    ∷ freshly listing (room 100) (blank ++ (0xAA ∷ 0xAA ∷ [])) 0
    ∷ freshly listing (room 97) (room 97) (refusal_number 21)
    ∷ freshly listing [] [] (refusal_number 21)
    -- as long as an image was in two earlier versions
    ∷ freshly listing (room 92) (room 92) (refusal_number 21)
    ∷ freshly listing (room 94) (room 94) (refusal_number 21)
    ∷ freshly (plan2 4 2 3 2 2 2 2) (room 97) (room 97) (refusal_number 7)
    ∷ freshly (plan2 4 2 3 2 2 2 2) [] [] (refusal_number 7)
    ∷ freshly (take 11 listing) (room 98) (room 98) (refusal_number 1)
    -- the listing's calls: words, 12 times 2 to the power 32, 0 for the credit, flow 0 for the tick
    ∷ chained listing (room 101)
    (Call.request word0 ∷ Call.request word1 ∷ Call.request word2 ∷ Call.credit 0 4 ∷ Call.request word2 ∷ Call.request other0 ∷ Call.tick ∷ [])
    (0x24000001 ∷ 0x24000402 ∷ 51539607552 ∷ 0 ∷ 0x24000804 ∷ 0x24100003 ∷ 0 ∷ []) (after_listing ++ (0xAA ∷ 0xAA ∷ 0xAA ∷ []))
    -- images that come up are taken by the next call: a holding that rises at CP, where it is lent and not booked; a booked CP that is not held;
    -- bookings in frame 1 with IF = 0, where frame 1 is HF
    ∷ chained listing (room 98) (Call.tick ∷ Call.lend 1 ∷ Call.tick ∷ []) (16 ∷ 0 ∷ 16 ∷ [])
    (image (current 2 ∷ turn 1 ∷ held 0 1 1 ∷ held 0 2 1 ∷ held 0 3 1 ∷ held 0 4 1 ∷ held 0 5 1 ∷ held 0 6 1 ∷ held 0 7 1 ∷ []))
    ∷ chained listing (room 98) (Call.request word0 ∷ Call.credit 0 1 ∷ Call.tick ∷ Call.tick ∷ []) (0x24000001 ∷ 0 ∷ 0 ∷ 16 ∷ [])
    (image (current 2 ∷ owner 1 0 ∷ left 0 1 ∷ expected 0 1 ∷ []))
    ∷ chained listing (room 98)
    (Call.tick ∷ Call.tick ∷ Call.tick ∷ Call.tick ∷ Call.request 0x24000004 ∷ Call.request 0x24000404 ∷ Call.request 0x24000804 ∷ Call.tick ∷ [])
    (16 ∷ 16 ∷ 16 ∷ 16 ∷ 0x24000005 ∷ 0x24000406 ∷ 51539607552 ∷ 0 ∷ []) (image (current 5 ∷ frame 1 1 ∷ owner 5 0 ∷ owner 6 0 ∷ held 0 5 1 ∷ held 0 6 2
    ∷ held 0 7 2 ∷ held 0 0 2 ∷ held 0 1 2 ∷ held 0 2 2 ∷ held 0 3 2 ∷ expected 0 2 ∷ []))
    -- bytes past the image keep their values
    ∷ leaves (blank ++ past) (Call.request word0) (image (owner 1 0 ∷ left 0 1 ∷ held 0 1 1 ∷ held 0 2 1 ∷ held 0 3 1 ∷ held 0 4 1 ∷ held 0 5 1
    ∷ held 0 6 1 ∷ held 0 7 1 ∷ expected 0 1 ∷ []) ++ past) 0x24000001
    -- 12 is written back: IF goes to the newest frame
    ∷ leaves (image (held 0 0 2 ∷ held 0 1 2 ∷ held 0 2 2 ∷ held 0 3 2 ∷ held 0 4 2 ∷ held 0 5 2 ∷ held 0 6 2 ∷ held 0 7 2 ∷ [])) (Call.request word0)
    (image (frame 0 1 ∷ held 0 0 2 ∷ held 0 1 2 ∷ held 0 2 2 ∷ held 0 3 2 ∷ held 0 4 2 ∷ held 0 5 2 ∷ held 0 6 2 ∷ held 0 7 2 ∷ [])) (refusal_number 12)
    -- and so is 20
    ∷ leaves blank (Call.request 0x24000007) (image (frame 0 1 ∷ [])) (refusal_number 20)
    -- other refusals leave the image: 8, 9 and 10, 14 and 15, 17 and 18
    ∷ turns_back (blank ++ past) (Call.request 0x24200000) 8
    ∷ turns_back blank (Call.request 0x20000000) 9
    ∷ turns_back blank (Call.request 0x24000008) 10
    ∷ turns_back blank (Call.credit 0 8) 13
    ∷ turns_back blank (Call.credit 0 0) 14
    ∷ turns_back blank (Call.credit 0 1) 15
    ∷ turns_back (image (mark 1 ∷ [])) (Call.lend 3) 17
    ∷ turns_back blank (Call.lend 0) 18
    -- RULES 12.4: 24, after 10 and before all that moves IF, leaves it too: a number ahead, one behind, that of another flow
    ∷ turns_back (blank ++ past) (Call.request word1) 24
    ∷ turns_back (image (expected 0 1 ∷ [])) (Call.request word0) 24
    ∷ turns_back (image (expected 1 1 ∷ [])) (Call.request other0) 24
    ∷ turns_back blank (Call.request 0x24000408) 10
    ∷ turns_back blank (Call.request 0x24000407) 24
    ∷ turns_back (image (frame 0 1 ∷ owner 4 0 ∷ owner 5 0 ∷ left 0 0 ∷ [])) (Call.request word1) 24
    -- 1,023 and then 0; a lend, a credit, a tick and a reset leave it
    ∷ leaves (image (expected 0 1023 ∷ [])) (Call.request 0x240FFC00) (image (owner 1 0 ∷ left 0 1 ∷ held 0 1 1 ∷ held 0 2 1 ∷ held 0 3 1 ∷ held 0 4 1
    ∷ held 0 5 1 ∷ held 0 6 1 ∷ held 0 7 1 ∷ [])) 0x240FFC01
    ∷ leaves (image (current 3 ∷ expected 0 5 ∷ [])) (Call.lend 3)
    (image (current 3 ∷ mark 1 ∷ turn 1 ∷ held 0 3 1 ∷ held 0 4 1 ∷ held 0 5 1 ∷ held 0 6 1 ∷ held 0 7 1 ∷ expected 0 5 ∷ [])) 0
    ∷ leaves (image (current 3 ∷ held 0 3 1 ∷ held 0 4 1 ∷ held 0 5 1 ∷ held 0 6 1 ∷ held 0 7 1 ∷ expected 0 5 ∷ [])) (Call.credit 0 4)
    (image (current 3 ∷ held 0 3 1 ∷ expected 0 5 ∷ [])) 0
    ∷ leaves (image (current 3 ∷ expected 1 1023 ∷ [])) Call.tick (image (current 4 ∷ frame 0 1 ∷ frame 1 1 ∷ expected 1 1023 ∷ [])) 16
    ∷ leaves (image (expected 0 5 ∷ expected 1 6 ∷ [])) Call.reset (image (expected 0 5 ∷ expected 1 6 ∷ [])) 0
    -- 21 and 22 come before 8
    ∷ turns_back (take 97 blank) (Call.request 0x24200000) 21
    ∷ turns_back (image (current 8 ∷ [])) (Call.request 0x24200000) 22
    ∷ turns_back (image (current 8 ∷ []) ++ past) (Call.credit 2 0) 22
    ∷ turns_back (image (held 0 0 257 ∷ [])) Call.tick 22
    ∷ turns_back (image (held 0 0 257 ∷ [])) (Call.lend 4) 22
    -- idle is 16, and flow 0 is 0; a tick takes the mark off
    ∷ leaves (image (mark 1 ∷ [])) Call.tick (image (current 1 ∷ [])) 16
    ∷ leaves (image (owner 1 0 ∷ left 0 1 ∷ [])) Call.tick (image (current 1 ∷ owner 1 0 ∷ left 0 1 ∷ [])) 0
    -- a lend is answered with its flow, the first from the one to look from on; the next looks from the flow after it, going round
    ∷ leaves (image (current 3 ∷ [])) (Call.lend 3)
    (image (current 3 ∷ mark 1 ∷ turn 1 ∷ held 0 3 1 ∷ held 0 4 1 ∷ held 0 5 1 ∷ held 0 6 1 ∷ held 0 7 1 ∷ [])) 0
    ∷ leaves (image (current 3 ∷ turn 1 ∷ [])) (Call.lend 3)
    (image (current 3 ∷ mark 1 ∷ held 1 3 1 ∷ held 1 4 1 ∷ held 1 5 1 ∷ held 1 6 1 ∷ held 1 7 1 ∷ [])) 1
    -- no other call touches it, and a granted reset puts it back to 0
    ∷ leaves (image (turn 1 ∷ [])) Call.tick (image (current 1 ∷ turn 1 ∷ [])) 16
    ∷ turns_back (image (turn 1 ∷ [])) (Call.lend 0) 18
    ∷ leaves (image (turn 1 ∷ [])) Call.reset blank 0
    ∷ turns_back (image (turn 1 ∷ held 0 0 1 ∷ [])) Call.reset 23
    -- a reset on a fresh link changes nothing; one that is granted empties the owners, marks a booked current slot, and moves IF to HF
    ∷ leaves (blank ++ past) Call.reset (blank ++ past) 0
    ∷ leaves (image (current 1 ∷ owner 1 0 ∷ left 0 1 ∷ [])) Call.reset (image (current 1 ∷ mark 1 ∷ [])) 0
    ∷ leaves (image (current 4 ∷ [])) Call.reset (image (current 4 ∷ frame 0 1 ∷ frame 1 1 ∷ [])) 0
    -- what is held at positions that have gone by stays, and so does a mark
    ∷ leaves (image (current 2 ∷ owner 1 0 ∷ left 0 1 ∷ mark 1 ∷ held 0 1 1 ∷ [])) Call.reset (image (current 2 ∷ mark 1 ∷ held 0 1 1 ∷ [])) 0
    -- the next calls take such an image
    ∷ chained listing (room 98) (Call.request word0 ∷ Call.credit 0 2 ∷ Call.tick ∷ Call.tick ∷ Call.reset ∷ Call.tick ∷ [])
    (0x24000001 ∷ 0 ∷ 0 ∷ 16 ∷ 0 ∷ 16 ∷ []) (image (current 3 ∷ held 0 1 1 ∷ expected 0 1 ∷ []))
    -- 23: a later position is booked, or a cell is held at CP or later; 21 and 22 come before it
    ∷ turns_back (image (owner 1 0 ∷ left 0 1 ∷ [])) Call.reset 23
    ∷ turns_back (image (held 0 0 1 ∷ []) ++ past) Call.reset 23
    ∷ turns_back (image (current 4 ∷ held 1 4 1 ∷ [])) Call.reset 23
    ∷ turns_back (take 97 blank) Call.reset 21
    ∷ turns_back (image (current 8 ∷ [])) Call.reset 22
    ∷ []

-- ---- all of them

unfoldable pub image_edges : List Case
unfolding length_edges condition_edges frame_edges export_edges
image_edges = length_edges ++ condition_edges ++ frame_edges ++ export_edges
