-- Edges of the program: its input, call records and lines. Assumes nothing.
--
-- What each comes to is worked out from RULES 13.1 to 13.5.
use Rattle.std.specs.Prelude.{ℕ, take, replicate}
use mathlib.Core.List.{List, ◌∷◌, [], ◌++◌, foldr}
use Rattle.model.specs.PlanBytes.{header, entry, plan1, plan2, plan_of_many, listing}
use Rattle.model.specs.EdgeCases.{Case, writes}

-- the listing's records
abbrev listing_records : List ℕ
listing_records =
    0x01 ∷ 0x00 ∷ 0x00 ∷ 0x00 ∷ 0x24 ∷ 0x01 ∷ 0x00 ∷ 0x04 ∷ 0x00 ∷ 0x24 ∷ 0x01 ∷ 0x00 ∷ 0x08 ∷ 0x00 ∷ 0x24 ∷ 0x02 ∷ 0x00 ∷ 0x04 ∷ 0x00 ∷ 0x00
    ∷ 0x01 ∷ 0x00 ∷ 0x08 ∷ 0x00 ∷ 0x24 ∷ 0x01 ∷ 0x00 ∷ 0x00 ∷ 0x10 ∷ 0x24 ∷ 0x03 ∷ 0x00 ∷ 0x00 ∷ 0x00 ∷ 0x00 ∷ []

-- a record of five bytes
abbrev five : (kind a b c d : ℕ) → List ℕ
five kind a b c d = kind ∷ a ∷ b ∷ c ∷ d ∷ []

abbrev request_record : List ℕ
request_record = five 1 0x00 0x00 0x00 0x24

abbrev tick_record : List ℕ
tick_record = five 3 0 0 0 0

unfoldable pub program_edges : List Case
program_edges =
    -- P: the listing, from its input to its output
    writes (listing ++ listing_records) "P 0\nG 1\nG 2\nR 12\nC\nG 4\nG 3\nT 0\n"
    -- no record
    ∷ writes listing "P 0\n"
    -- no bytes, one, and two that state 20
    ∷ writes [] "P 1\n"
    ∷ writes (take 1 listing) "P 1\n"
    ∷ writes (take 2 listing) "P 1\n"
    -- one byte fewer than stated
    ∷ writes (take 19 listing) "P 1\n"
    -- lengths 11, 76 and 77, and 276, whose low byte is 20
    ∷ writes (header 11 1 12 4 2 8 ++ entry 1 1 1 9) "P 1\n"
    ∷ writes (plan_of_many 16) "P 0\n"
    ∷ writes (header 77 1 12 4 2 8 ++ replicate 65 0) "P 1\n"
    ∷ writes (header 276 2 12 4 2 4 ++ replicate 264 0) "P 1\n"
    -- a refused plan ends the program
    ∷ writes (plan2 4 2 3 2 2 2 2 ++ listing_records) "P 7\n"
    -- a short last record, of one byte and of four
    ∷ writes (listing ++ tick_record ++ (3 ∷ [])) "P 0\nT -\nR 16\n"
    ∷ writes (listing ++ request_record ++ take 4 request_record) "P 0\nG 1\nR 16\n"
    -- unknown kinds 0, 4 and 255; the link is unchanged
    ∷ writes (listing ++ five 0 0 0 0 0 ++ five 4 0 0 0 0 ++ five 255 0 0 0 0x24 ++ request_record) "P 0\nR 16\nR 16\nR 16\nG 1\n"
    -- nonzero fillers: a credit's, and each of a tick's
    ∷ writes (listing ++ request_record ++ five 2 0 1 0 1 ++ five 2 0 1 0 0) "P 0\nG 1\nR 16\nC\n"
    ∷ writes (listing ++ five 3 1 0 0 0 ++ five 3 0 1 0 0 ++ five 3 0 0 1 0 ++ five 3 0 0 0 1) "P 0\nR 16\nR 16\nR 16\nR 16\n"
    -- 16 comes before the call that the record would make: flow 2 of two gives 8
    ∷ writes (listing ++ five 2 2 1 0 1 ++ five 2 2 1 0 0) "P 0\nR 16\nR 8\n"
    -- a position has two bytes, low first: 256 is no position, 1 is
    ∷ writes (listing ++ request_record ++ five 2 0 0 1 0 ++ five 2 0 1 0 0) "P 0\nG 1\nR 13\nC\n"
    -- RULES 6.3: departure 7 of 8 on a fresh link, and then the flow's frame is the newest
    ∷ writes (listing ++ five 1 0x07 0x00 0x00 0x24 ++ request_record) "P 0\nR 20\nG 4\n"
    -- RULES 5.2: the same number again after a grant, and then the next one
    ∷ writes (listing ++ request_record ++ request_record ++ five 1 0x00 0x04 0x00 0x24) "P 0\nG 1\nR 24\nG 2\n"
    -- two digits
    ∷ writes (plan1 16 2 8 1 1 ++ foldr ◌++◌ [] (replicate 9 tick_record) ++ request_record) "P 0\nT -\nT -\nT -\nT -\nT -\nT -\nT -\nT -\nT -\nG 10\n"
    ∷ []
