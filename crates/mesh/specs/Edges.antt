-- Edges of the mesh: the first cases, and more that tell wrong readings apart. RULES 16.1 to 16.3. Assumes nothing.
--
-- What each comes to is worked out from the rules. Boards of the first rows:
--    0  1  2  3  4  5  6  7
--    8  9 10 11 12 13 14 15
--   16 17 18 19 20 21 22 23
use Rattle.std.specs.Prelude.{List, ◌∷◌, [], replicate}
use Rattle.mesh.specs.Streams.{stream_with}
use Rattle.mesh.specs.EdgeCases.{Case, admits, refuses, overloads}

-- ---- what is asked for

unfoldable pub asked_edges : List Case
asked_edges =
    -- no streams: F alone counts
    admits 1 []
    ∷ admits 64 []
    ∷ refuses 3 0 []
    ∷ refuses 3 65 []
    -- more than 64 streams ahead of all else, F before the entries, the entries before the links
    ∷ refuses 25 0 (replicate 65 (stream_with 5 5 0))
    ∷ refuses 25 4 (replicate 65 (stream_with 5 5 0))
    ∷ refuses 25 64 (replicate 65 (stream_with 0 1 1))
    ∷ refuses 3 0 (stream_with 5 5 1 ∷ [])
    ∷ refuses 4 2 (stream_with 0 1 2 ∷ stream_with 0 1 1 ∷ stream_with 5 5 1 ∷ [])
    -- shares of 0 and of F + 1, nodes of 64, equal ends; and what is just within
    ∷ refuses 4 4 (stream_with 0 1 0 ∷ [])
    ∷ refuses 4 4 (stream_with 0 1 5 ∷ [])
    ∷ refuses 4 4 (stream_with 64 1 1 ∷ [])
    ∷ refuses 4 4 (stream_with 1 64 1 ∷ [])
    ∷ refuses 4 4 (stream_with 9 9 1 ∷ [])
    ∷ admits 4 (stream_with 0 63 4 ∷ stream_with 63 0 4 ∷ [])
    -- two streams with the same ends
    ∷ admits 2 (stream_with 0 1 1 ∷ stream_with 0 1 1 ∷ [])
    ∷ []

-- ---- where the shares add up

unfoldable pub link_edges : List Case
link_edges =
    -- along the row first: both use the link from 1 to 9, and column first they would meet in none
    overloads 2 (stream_with 0 9 2 ∷ stream_with 1 9 1 ∷ []) (1 ∷ 9 ∷ 3 ∷ [])
    -- along the row first: in none they meet, and column first both would use the link from 8 to 9
    ∷ admits 2 (stream_with 0 9 2 ∷ stream_with 8 9 1 ∷ [])
    -- the two directions of a pair of boards
    ∷ admits 2 (stream_with 0 1 2 ∷ stream_with 1 0 2 ∷ [])
    ∷ admits 2 (stream_with 0 8 2 ∷ stream_with 8 0 2 ∷ [])
    -- ways that only cross, in board 9, and ways of which one ends where the other starts
    ∷ admits 1 (stream_with 8 10 1 ∷ stream_with 1 17 1 ∷ [])
    ∷ admits 1 (stream_with 0 1 1 ∷ stream_with 1 2 1 ∷ [])
    -- the last link and the first, to the east, west, south and north
    ∷ overloads 2 (stream_with 0 2 2 ∷ stream_with 1 2 1 ∷ []) (1 ∷ 2 ∷ 3 ∷ [])
    ∷ overloads 2 (stream_with 0 2 2 ∷ stream_with 0 1 1 ∷ []) (0 ∷ 1 ∷ 3 ∷ [])
    ∷ overloads 2 (stream_with 2 0 2 ∷ stream_with 1 0 1 ∷ []) (1 ∷ 0 ∷ 3 ∷ [])
    ∷ overloads 2 (stream_with 2 0 2 ∷ stream_with 2 1 1 ∷ []) (2 ∷ 1 ∷ 3 ∷ [])
    ∷ overloads 2 (stream_with 0 16 2 ∷ stream_with 8 16 1 ∷ []) (8 ∷ 16 ∷ 3 ∷ [])
    ∷ overloads 2 (stream_with 0 16 2 ∷ stream_with 0 8 1 ∷ []) (0 ∷ 8 ∷ 3 ∷ [])
    ∷ overloads 2 (stream_with 16 0 2 ∷ stream_with 8 0 1 ∷ []) (8 ∷ 0 ∷ 3 ∷ [])
    ∷ overloads 2 (stream_with 16 0 2 ∷ stream_with 16 8 1 ∷ []) (16 ∷ 8 ∷ 3 ∷ [])
    -- to the west and then to the north: all of column 0
    ∷ overloads 1 (stream_with 63 0 1 ∷ stream_with 56 0 1 ∷ [])
    (8 ∷ 0 ∷ 2 ∷ 16 ∷ 8 ∷ 2 ∷ 24 ∷ 16 ∷ 2 ∷ 32 ∷ 24 ∷ 2 ∷ 40 ∷ 32 ∷ 2 ∷ 48 ∷ 40 ∷ 2 ∷ 56 ∷ 48 ∷ 2 ∷ [])
    -- a row's end is no neighbour of the next row's start
    ∷ admits 1 (stream_with 6 7 1 ∷ stream_with 7 8 1 ∷ stream_with 8 9 1 ∷ [])
    -- two links of one way, each with another stream
    ∷ overloads 64 (stream_with 3 5 36 ∷ stream_with 3 4 34 ∷ stream_with 4 5 30 ∷ []) (3 ∷ 4 ∷ 70 ∷ 4 ∷ 5 ∷ 66 ∷ [])
    -- the links of one board, by the board that they lead to
    ∷ overloads 1 (stream_with 9 17 1 ∷ stream_with 9 10 1 ∷ stream_with 9 8 1 ∷ stream_with 9 1 1 ∷ stream_with 9 17 1 ∷ stream_with 9 10 1 ∷ stream_with 9 8 1 ∷ stream_with 9 1 1 ∷ [])
    (9 ∷ 1 ∷ 2 ∷ 9 ∷ 8 ∷ 2 ∷ 9 ∷ 10 ∷ 2 ∷ 9 ∷ 17 ∷ 2 ∷ [])
    -- by the board that they leave first, though the second leads to a lower one
    ∷ overloads 1 (stream_with 2 1 1 ∷ stream_with 1 9 1 ∷ stream_with 2 1 1 ∷ stream_with 1 9 1 ∷ []) (1 ∷ 9 ∷ 2 ∷ 2 ∷ 1 ∷ 2 ∷ [])
    -- shares that add to 64, to 65, and to 320, which is 64 modulo 256
    ∷ admits 64 (stream_with 3 4 32 ∷ stream_with 2 5 32 ∷ [])
    ∷ overloads 64 (stream_with 3 4 32 ∷ stream_with 2 5 33 ∷ []) (3 ∷ 4 ∷ 65 ∷ [])
    ∷ overloads 64 (replicate 5 (stream_with 0 1 64)) (0 ∷ 1 ∷ 320 ∷ [])
    -- 64 streams of share 1 on one link
    ∷ admits 64 (replicate 64 (stream_with 62 63 1))
    ∷ overloads 63 (replicate 64 (stream_with 62 63 1)) (62 ∷ 63 ∷ 64 ∷ [])
    ∷ []
