-- The bytes of plans (RULES 2.2), for examples. Assumes nothing.
use Rattle.std.specs.Prelude.{ℕ, ◌+◌, ◌*◌, length}
use mathlib.Core.List.{List, ◌∷◌, [], ◌++◌, foldr}
use Rattle.model.specs.Tables.{table}
use Rattle.model.specs.WrittenPlan.{header_bytes, entry_bytes}

abbrev pub header : (total n offset F W N : ℕ) → List ℕ
header total n offset F W N = header_bytes (record { total = total; count = n; offset = offset; slots = F; frames = W; buffer = N })

abbrev pub entry : (share cells source destination : ℕ) → List ℕ
entry share cells source destination = entry_bytes (record { share = share; cells = cells; source = source; destination = destination })

abbrev pub plan : (F W N : ℕ) → List (List ℕ) → List ℕ
plan F W N entries = header (12 + 4 * length entries) (length entries) 12 F W N ++ foldr ◌++◌ [] entries

-- one flow, from node 1 to node 9
abbrev pub plan1 : (F W N share cells : ℕ) → List ℕ
plan1 F W N share cells = plan F W N (entry share cells 1 9 ∷ [])

-- two flows, from nodes 1 and 2 to node 9
abbrev pub plan2 : (F W N share0 cells0 share1 cells1 : ℕ) → List ℕ
plan2 F W N share0 cells0 share1 cells1 = plan F W N (entry share0 cells0 1 9 ∷ entry share1 cells1 2 9 ∷ [])

-- k flows with share 1 and one cell, where F = N = k
abbrev pub plan_of_many : ℕ → List ℕ
plan_of_many k = plan k 2 k (table k (λ i. entry 1 1 i 63))

-- F = 4, W = 2, N = 4, two flows with share 2 and 2 cells: the listing's bytes
abbrev pub listing : List ℕ
listing =
    0x14 ∷ 0x00 ∷ 0x02 ∷ 0x00 ∷ 0x0C ∷ 0x00 ∷ 0x04 ∷ 0x00 ∷ 0x02 ∷ 0x00 ∷ 0x04 ∷ 0x00
    ∷ 0x02 ∷ 0x02 ∷ 0x01 ∷ 0x09 ∷ 0x02 ∷ 0x02 ∷ 0x02 ∷ 0x09 ∷ []

-- the same with 4 cells each and N = 8, so that a flow's shares run out before its cells
abbrev pub roomy : List ℕ
roomy = plan2 4 2 8 2 4 2 4

-- F = 1, W = 2, N = 4, one flow with share 1 and 4 cells
abbrev pub single : List ℕ
single = plan1 1 2 4 1 4

-- F = 4, W = 2, one flow: with share 2 and 1 cell, and with share 1 and 8 cells
abbrev pub one_cell : List ℕ
one_cell = plan1 4 2 8 2 1

abbrev pub one_share : List ℕ
one_share = plan1 4 2 16 1 8

-- F = 4, W = 2, three flows with share 1, from nodes 1, 2 and 3 to node 9: the cells of the second are given, the others have 8
abbrev pub plan3 : (cells1 : ℕ) → List ℕ
plan3 cells1 = plan 4 2 30 (entry 1 8 1 9 ∷ entry 1 cells1 2 9 ∷ entry 1 8 3 9 ∷ [])

-- F = 4, W = 2, two flows with 8 cells, of which one has share 1 and the other 3
abbrev pub unequal : List ℕ
unequal = plan2 4 2 40 1 8 3 8
