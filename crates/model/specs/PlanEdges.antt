-- Edges of the plan's tests, 1 to 7: both ends of each limit, and the order of the tests. Assumes nothing.
--
-- What each comes to is worked out from RULES 2.3.
use Rattle.std.specs.Prelude.{ℕ, List, ◌∷◌, [], ◌++◌, take}
use Rattle.model.specs.PlanBytes.{header, entry, plan, plan1, plan2, plan_of_many}
use Rattle.model.specs.EdgeCases.{Case, accepts, refuses}

-- one entry in a plan with F = 4, W = 2, N = 8
abbrev sole : (share cells source destination : ℕ) → List ℕ
sole share cells source destination = plan 4 2 8 (entry share cells source destination ∷ [])

abbrev framed : (F W N : ℕ) → List ℕ
framed F W N = plan1 F W N 1 1

unfoldable pub plan_edges : List Case
plan_edges =
    -- 1: too short, or another length than it says
    refuses 1 []  -- no bytes
    ∷ refuses 1 (take 11 (header 11 1 12 4 2 8))  -- 11 bytes, as stated
    ∷ refuses 1 (header 16 1 12 4 2 8)  -- 12 bytes where 16 are stated
    ∷ refuses 1 (header 20 1 12 4 2 8 ++ entry 1 1 1 9)  -- 16 bytes where 20 are stated
    ∷ refuses 1 (header 16 1 12 4 2 8 ++ entry 1 1 1 9 ++ entry 1 1 2 9)  -- 20 bytes where 16 are stated
    ∷ refuses 1 (header 272 1 12 4 2 8 ++ entry 1 1 1 9)  -- 272 stated, whose low byte is 16
    -- 2: n from 1 to 16
    ∷ refuses 2 (header 12 0 12 4 2 8)  -- 0
    ∷ accepts (header 16 1 12 4 2 8 ++ entry 1 1 1 9)  -- 1
    ∷ accepts (plan_of_many 16)  -- 16
    ∷ refuses 2 (plan_of_many 17)  -- 17
    ∷ refuses 2 (header 16 257 12 4 2 8 ++ entry 1 1 1 9)  -- 257, whose low byte is 1
    -- 2: the offset is 12
    ∷ refuses 2 (header 16 1 0 4 2 8 ++ entry 1 1 1 9)  -- 0
    ∷ refuses 2 (header 16 1 11 4 2 8 ++ entry 1 1 1 9)  -- 11
    ∷ refuses 2 (header 16 1 13 4 2 8 ++ entry 1 1 1 9)  -- 13
    ∷ refuses 2 (header 16 1 268 4 2 8 ++ entry 1 1 1 9)  -- 268, whose low byte is 12
    -- 2: the length is 12 + 4n
    ∷ refuses 2 (header 12 1 12 4 2 8)  -- 12, with n = 1
    ∷ refuses 2 (header 17 1 12 4 2 8 ++ entry 1 1 1 9 ++ (0 ∷ []))  -- 17, with n = 1
    ∷ refuses 2 (header 20 1 12 4 2 8 ++ entry 1 1 1 9 ++ entry 1 1 2 9)  -- 20, with n = 1
    ∷ refuses 2 (header 16 2 12 4 2 8 ++ entry 1 1 1 9)  -- 16, with n = 2
    -- 3: F from 1 to 64
    ∷ refuses 3 (framed 0 2 8)  -- 0
    ∷ accepts (framed 1 2 8)  -- 1
    ∷ accepts (framed 64 2 8)  -- 64
    ∷ refuses 3 (framed 65 2 8)  -- 65
    ∷ refuses 3 (framed 260 2 8)  -- 260, whose low byte is 4
    -- 3: W from 2 to 8
    ∷ refuses 3 (framed 4 1 8)  -- 1
    ∷ accepts (framed 4 2 8)  -- 2
    ∷ accepts (framed 4 8 8)  -- 8
    ∷ refuses 3 (framed 4 9 8)  -- 9
    ∷ refuses 3 (framed 4 258 8)  -- 258, whose low byte is 2
    -- 3: N from 1 to 4,095
    ∷ refuses 3 (framed 4 2 0)  -- 0
    ∷ accepts (framed 4 2 1)  -- 1
    ∷ accepts (plan2 4 2 4095 2 255 2 255)  -- 4,095, whose low byte is less than the 510 cells
    ∷ refuses 3 (framed 4 2 4096)  -- 4,096
    ∷ refuses 3 (framed 4 2 4097)  -- 4,097, whose low byte is 1
    -- 3: T at most 256
    ∷ accepts (framed 51 5 8)  -- 255
    ∷ accepts (framed 32 8 8)  -- 256
    ∷ refuses 3 (framed 43 6 8)  -- 258
    -- 4: the share from 1 to F
    ∷ refuses 4 (sole 0 1 1 9)  -- 0
    ∷ accepts (sole 1 1 1 9)  -- 1
    ∷ accepts (sole 4 1 1 9)  -- F
    ∷ refuses 4 (sole 5 1 1 9)  -- F + 1
    -- 4: cells from 1 to 255
    ∷ refuses 4 (sole 1 0 1 9)  -- 0
    ∷ accepts (plan1 4 2 255 1 255)  -- 255
    -- 4: nodes from 0 to 63
    ∷ accepts (sole 1 1 0 9)  -- source 0
    ∷ accepts (sole 1 1 63 9)  -- source 63
    ∷ refuses 4 (sole 1 1 64 9)  -- source 64
    ∷ accepts (sole 1 1 9 0)  -- destination 0
    ∷ accepts (sole 1 1 9 63)  -- destination 63
    ∷ refuses 4 (sole 1 1 9 64)  -- destination 64
    ∷ refuses 4 (sole 1 1 9 9)  -- the two are equal
    -- 4: some entry
    ∷ refuses 4 (plan2 4 2 8 1 0 1 1)  -- the first
    ∷ refuses 4 (plan2 4 2 8 1 1 1 0)  -- the last
    -- 5: source and destination
    ∷ refuses 5 (plan 4 2 8 (entry 1 1 1 9 ∷ entry 1 1 1 9 ∷ []))  -- both are equal
    ∷ accepts (plan 4 2 8 (entry 1 1 1 9 ∷ entry 1 1 1 8 ∷ []))  -- the sources are
    ∷ accepts (plan 4 2 8 (entry 1 1 1 9 ∷ entry 1 1 2 9 ∷ []))  -- the destinations are
    ∷ accepts (plan 4 2 8 (entry 1 1 1 9 ∷ entry 1 1 9 1 ∷ []))  -- there and back
    ∷ refuses 5 (plan 4 2 8 (entry 1 1 1 9 ∷ entry 1 1 2 9 ∷ entry 1 1 1 9 ∷ []))  -- of the first and the last of three
    ∷ refuses 5 (plan 4 2 8 (entry 1 1 1 9 ∷ entry 1 1 2 9 ∷ entry 1 1 2 9 ∷ []))  -- of the last two
    -- 6: the sum of all shares
    ∷ accepts (plan 4 2 8 (entry 2 1 1 9 ∷ entry 1 1 2 9 ∷ entry 1 1 3 9 ∷ []))  -- F
    ∷ refuses 6 (plan 4 2 8 (entry 2 1 1 9 ∷ entry 2 1 2 9 ∷ entry 1 1 3 9 ∷ []))  -- F + 1
    ∷ refuses 6 (plan 64 2 8 (entry 64 1 1 9 ∷ entry 64 1 2 9 ∷ entry 64 1 3 9 ∷ entry 64 1 4 9 ∷ []))  -- 256, whose low byte is 0
    -- 7: the sum of all cells
    ∷ accepts (plan 4 2 5 (entry 1 2 1 9 ∷ entry 1 2 2 9 ∷ entry 1 1 3 9 ∷ []))  -- N
    ∷ refuses 7 (plan 4 2 4 (entry 1 2 1 9 ∷ entry 1 2 2 9 ∷ entry 1 1 3 9 ∷ []))  -- N + 1
    ∷ accepts (plan2 4 2 510 2 255 2 255)  -- N, more than a byte
    ∷ refuses 7 (plan2 4 2 509 2 255 2 255)  -- N + 1, more than a byte
    -- the order of the tests
    ∷ refuses 1 (header 16 0 12 4 2 8)  -- 1 and 2
    ∷ refuses 2 (header 16 1 13 0 2 8 ++ entry 1 1 1 9)  -- 2 and 3
    ∷ refuses 3 (plan1 4 9 8 0 1)  -- 3 and 4
    ∷ refuses 4 (plan 4 2 8 (entry 1 1 9 9 ∷ entry 1 1 9 9 ∷ []))  -- 4 and 5
    ∷ refuses 5 (plan 4 2 8 (entry 2 1 1 9 ∷ entry 3 1 1 9 ∷ []))  -- 5 and 6
    ∷ refuses 6 (plan2 4 2 3 2 2 3 2)  -- 6 and 7
    ∷ []
