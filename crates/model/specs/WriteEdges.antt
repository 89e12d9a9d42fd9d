-- Edges of the writer. RULES 15.1 to 15.3. Assumes nothing.
--
-- What each comes to is worked out from the rules.
use Rattle.std.specs.Prelude.{ℕ, List, ◌∷◌, [], ◌++◌, replicate}
use Rattle.model.specs.Tables.{table}
use Rattle.model.specs.Plan.{Plan, Entry}
use Rattle.model.specs.PlanBytes.{listing}
use Rattle.model.specs.EdgeCases.{Case, stores, declines}

abbrev flow : (share cells source destination : ℕ) → Entry
flow share cells source destination = record { share = share; cells = cells; source = source; destination = destination }

abbrev asked : (F W N : ℕ) → List Entry → Plan
asked F W N entries = record { slots = F; frames = W; buffer = N; entries = entries }

-- two flows from nodes 1 and 2 to node 9, as in the listing, with other shares
abbrev shares : (first second : ℕ) → Plan
shares first second = asked 4 2 4 (flow first 2 1 9 ∷ flow second 2 2 9 ∷ [])

-- one flow of share 1 with one cell
abbrev alone : (F W N : ℕ) → Plan
alone F W N = asked F W N (flow 1 1 1 9 ∷ [])

-- a lent buffer, before it is written
abbrev room : ℕ → List ℕ
room size = replicate size 0xAA

unfoldable pub write_edges : List Case
write_edges =
    -- the listing's plan in 20 bytes, in 22, and in one byte too few
    stores (shares 2 2) (room 20) 20 listing
    ∷ stores (shares 2 2) (room 22) 20 (listing ++ (0xAA ∷ 0xAA ∷ []))
    ∷ declines 19 (shares 2 2) (room 19)
    -- 16 flows are 76 bytes
    ∷ declines 19 (asked 16 2 16 (table 16 (λ i. flow 1 1 i 63))) (room 75)
    -- 19 after 6 and after 7; and 5
    ∷ declines 6 (shares 2 3) (room 0)
    ∷ declines 7 (asked 4 2 3 (flow 2 2 1 9 ∷ flow 2 2 2 9 ∷ [])) (room 0)
    ∷ declines 5 (asked 4 2 4 (flow 1 1 1 9 ∷ flow 1 1 1 9 ∷ [])) (room 20)
    -- 2 before 3, of 17 flows, which make 80 bytes; and no flow
    ∷ declines 2 (asked 0 2 4 (table 17 (λ i. flow 1 1 i 63))) (room 0)
    ∷ declines 2 (asked 4 2 4 []) (room 12)
    -- too wide for the field: F of 300 and of 65,540, W of 258, N of 70,000
    ∷ declines 3 (alone 300 2 4) (room 16)
    ∷ declines 3 (alone 65540 2 4) (room 16)
    ∷ declines 3 (alone 4 258 4) (room 16)
    ∷ declines 3 (alone 4 2 70000) (room 16)
    -- too wide for a byte of the entry: a share of 300 and of 257, 257 cells, nodes 257 and 265
    ∷ declines 4 (asked 4 2 4 (flow 300 1 1 9 ∷ [])) (room 16)
    ∷ declines 4 (asked 4 2 4 (flow 257 1 1 9 ∷ [])) (room 16)
    ∷ declines 4 (asked 4 2 4 (flow 1 257 1 9 ∷ [])) (room 16)
    ∷ declines 4 (asked 4 2 4 (flow 1 1 257 9 ∷ [])) (room 16)
    ∷ declines 4 (asked 4 2 4 (flow 1 1 1 265 ∷ [])) (room 16)
    -- both bytes of a field, N of 513 being 01 02; and an entry whose four numbers differ
    ∷ stores (asked 4 2 513 (flow 1 3 5 9 ∷ [])) (room 16) 16 (0x10 ∷ 0 ∷ 1 ∷ 0 ∷ 0x0C ∷ 0 ∷ 4 ∷ 0 ∷ 2 ∷ 0 ∷ 0x01 ∷ 0x02 ∷ 1 ∷ 3 ∷ 5 ∷ 9 ∷ [])
    ∷ []
