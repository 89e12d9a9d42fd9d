-- Crossings worked out by hand, and one on which a slot more would be false. RULES 27.1 to 27.8. Assumes nothing.
use Rattle.std.specs.Prelude.{ℕ, ◌+◌, ◌≤◌, List, ◌∷◌, [], reverse, take}
use Rattle.std.proofs.Math.Option.{Option, some, none}
use Rattle.model.specs.Plan.{Plan, entry, plan_of}
use Rattle.model.specs.Calls.{Call, History, requested, credited, ticked, accepted, refused}
use Rattle.model.specs.History.{granted_up_to}
use Rattle.model.specs.PlanBytes as plan_bytes
use Rattle.crossings.specs.Crossing.{Crossing}
use Rattle.crossings.specs.Playing.{Board, Other, on_arriving, on_leaving, Slot, played}

-- the events of both links, oldest first, and how many tiles of the first flows wait
pub record Outcome : Type 0 where
  pub arriving : History
  pub leaving : History
  pub waiting : List ℕ

abbrev pub outcome : (flows : ℕ) → Crossing → Outcome
outcome n x = record { arriving = reverse x.arriving.history; leaving = reverse x.leaving.history; waiting = take n x.waiting }

-- ---- F = 2, W = 2: one flow from node 0 to node 9 on each link, with share 1 and one cell

abbrev pub one_cell : List ℕ
one_cell = plan_bytes.plan 2 2 8 (plan_bytes.entry 1 1 0 9 ∷ [])

abbrev pub on_one : List (Option ℕ)
on_one = some 0 ∷ []

-- In slots 0, 1 and 2 the in-link is asked for a tile; after the board's part of slot 2 the next board gives a cell of the out-link back, dated 3.
abbrev pub ask_first : List Other
ask_first = on_arriving (Call.request 0x24000000) ∷ []

abbrev pub slots_one : List Slot
slots_one =
    record { before = []; after = on_arriving (Call.request 0x24000401) ∷ [] }
    ∷ record { before = []; after = on_leaving (Call.credit 0 3) ∷ on_arriving (Call.request 0x24000802) ∷ [] }
    ∷ record { before = []; after = [] }
    ∷ []

-- RULES 27.3: the tile of slot 1 is granted slot 2. That of slot 2 is refused, and waits: its cell is full, so that the in-link refuses the third.
-- In slot 3 it is
-- granted slot 4, and its cell is credited, dated that slot.
abbrev pub outcome_one : Outcome
outcome_one = record {
  arriving =
      requested 0x24000000 (accepted 0x24000001) ∷ ticked (some 0) ∷ credited 0 2 (accepted tt) ∷ requested 0x24000401 (accepted 0x24000402)
      ∷ ticked (some 0) ∷ requested 0x24000802 (refused 12) ∷ ticked none ∷ credited 0 0 (accepted tt) ∷ [];
  leaving =
      ticked none ∷ requested 0x24000001 (accepted 0x24000002) ∷ ticked (some 0) ∷ requested 0x24000402 (refused 12) ∷ credited 0 3 (accepted tt)
      ∷ ticked none ∷ requested 0x24000403 (accepted 0x24000400) ∷ [];
  waiting = 0 ∷ [];
}

abbrev pub crosses_one : Board → List Slot → Crossing
crosses_one b slots = played b (plan_of one_cell) (plan_of one_cell) on_one ask_first slots

-- ---- one slot more

-- RULES 27.8: tiles that come up to slot s + more, less those that left up to slot s
abbrev pub WithinCellsOf : (more : ℕ) → Plan → Plan → (i j : ℕ) → Crossing → Type 0
WithinCellsOf more P Q i j x = (s : ℕ)
    → granted_up_to P x.arriving.history i (s + more) ≤ granted_up_to Q x.leaving.history j s + (entry P i).cells
