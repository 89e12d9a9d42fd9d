-- The faults of a plan: each limit of tests 2 to 7 by itself. RULES 15.4. Assumes nothing.
use Rattle.std.specs.Prelude.{ℕ, ◌*◌, min, List, ◌++◌, not, ltb}
use Rattle.model.specs.Tables.{sum, first_from}
use Rattle.model.specs.Plan.{Plan, Entry, flow_count, entry, same_pair, same_nodes}
use Rattle.model.specs.Plan.{count_fits, slots_fit, frames_fit, buffer_fits, many_positions, share_fits, cells_fit, node_fits}
use Rattle.faults.specs.Told.{told, first_told, each_below}

-- RULES 15.4: of more than 16 flows the first 16 are looked at
abbrev pub flows_seen : Plan → ℕ
flows_seen P = min (flow_count P) 16

-- RULES 15.4: n
abbrev pub count_faults : (n : ℕ) → List ℕ
count_faults n = told (not (count_fits n)) 2 n 0

-- RULES 15.4: F, W, T and N
abbrev pub frame_faults : (F W N : ℕ) → List ℕ
frame_faults F W N =
    told (not (slots_fit F)) 3 0 F ++ told (not (frames_fit W)) 3 1 W ++ told (many_positions (F * W)) 3 2 (F * W) ++ told (not (buffer_fits N)) 3 3 N

-- RULES 15.4: the share, the cells and the nodes of flow i
abbrev pub entry_faults : (F : ℕ) → (e : Entry) → (i : ℕ) → List ℕ
entry_faults F e i =
    told (not (share_fits F e.share)) 4 i 0 ++ told (not (cells_fit e.cells)) 4 i 1
    ++ told (not (node_fits e.source)) 4 i 2 ++ told (not (node_fits e.destination)) 4 i 3 ++ told (same_nodes e) 4 i 4

-- RULES 15.4: the first flow before flow j that has its nodes
abbrev pub alike_faults : Plan → (j : ℕ) → List ℕ
alike_faults P j = first_told 5 (first_from j 0 (λ i. same_pair (entry P i) (entry P j))) j

-- RULES 15.4: the sums
abbrev pub sum_faults : (F N shares cells : ℕ) → List ℕ
sum_faults F N shares cells = told (ltb F shares) 6 shares F ++ told (ltb N cells) 7 cells N

abbrev pub share_sum : Plan → ℕ
share_sum P = sum (flows_seen P) (λ i. (entry P i).share)

abbrev pub cell_sum : Plan → ℕ
cell_sum P = sum (flows_seen P) (λ i. (entry P i).cells)

-- RULES 15.4: all faults, by the tests' numbers and then by place
unfoldable pub faults_of : Plan → List ℕ
faults_of P =
    count_faults (flow_count P) ++ frame_faults P.slots P.frames P.buffer
    ++ each_below (flows_seen P) (λ i. entry_faults P.slots (entry P i) i)
    ++ each_below (flows_seen P) (alike_faults P)
    ++ sum_faults P.slots P.buffer (share_sum P) (cell_sum P)
