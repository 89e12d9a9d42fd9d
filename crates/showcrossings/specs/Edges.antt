-- A stream over two links and the crossing between them, worked out by hand: its tile takes the longest that it may. RULES 27.13. Assumes nothing.
use Rattle.std.specs.Prelude.{ℕ, List, ◌∷◌, []}
use Rattle.std.proofs.Math.Option.{Option, some, none}
use Rattle.model.specs.Plan.{plan_of}
use Rattle.model.specs.Calls.{Call, History, requested, credited, ticked, accepted}
use Rattle.model.specs.PlanBytes as plan_bytes
use Rattle.show.specs.Show.{Show}
use Rattle.show.specs.Edges.{sent, show_with}
use Rattle.crossings.specs.Crossing.{Crossing, served}
use Rattle.crossings.specs.Playing as playing
use Rattle.crossings.specs.Playing.{Other, on_arriving, on_leaving, Slot, played}

-- ---- F = 2, W = 2, N = 8: a stream with share 1 from board 0 over board 1 to board 9, and on each of its links a neighbour with share 1

-- the stream's cells on the first link and on the last; its neighbours have three
abbrev pub three_streams : (cells last_cells : ℕ) → Show
three_streams cells last_cells = show_with 2 2 8 (sent 0 9 1 cells last_cells ∷ sent 0 1 1 3 3 ∷ sent 1 9 1 3 3 ∷ [])

-- the plans of its two links: the stream is flow 0 of each
abbrev pub first_bytes : (cells : ℕ) → List ℕ
first_bytes cells = plan_bytes.plan 2 2 8 (plan_bytes.entry 1 cells 0 9 ∷ plan_bytes.entry 1 3 0 1 ∷ [])

abbrev pub last_bytes : (last_cells : ℕ) → List ℕ
last_bytes last_cells = plan_bytes.plan 2 2 8 (plan_bytes.entry 1 last_cells 0 9 ∷ plan_bytes.entry 1 3 1 9 ∷ [])

-- flow 0 goes on as flow 0, and flow 1 ends at board 1
abbrev pub on_stream : List (Option ℕ)
on_stream = some 0 ∷ []

-- A run of the two links and the crossing between them, with the stream's cells; and the events of both that should come of it, oldest first.
pub record Run : Type 0 where
  pub board : playing.Board
  pub cells : ℕ
  pub last_cells : ℕ
  pub begin : List Other
  pub slots : List Slot
  pub first : History
  pub last : History

abbrev pub crosses : Run → Crossing
crosses r = played r.board (plan_of (first_bytes r.cells)) (plan_of (last_bytes r.last_cells)) on_stream r.begin r.slots

-- ---- slots

abbrev pub quiet : Slot
quiet = record { before = []; after = [] }

abbrev pub slot_with : (before after : List Other) → Slot
slot_with before after = record { before = before; after = after }

-- requests on the first link: the stream's, and its neighbour's; and on the last one
abbrev pub asks_first : (word : ℕ) → Other
asks_first w = on_arriving (Call.request w)

abbrev pub asks_last : (word : ℕ) → Other
asks_last w = on_leaving (Call.request w)

-- ---- the longest way

-- In slot 0 the neighbour on the first link is granted slots 1 and 2, and the stream's tile, which has come, slot 3. In slot 3 the neighbour on the
-- last link is granted slot 4 before the crossing's part, so that the tile is granted slot 5: 3 × F - 1 slots after it was due.
abbrev pub long_begin : List Other
long_begin = asks_first 0x04100000 ∷ asks_first 0x04100400 ∷ asks_first 0x24000000 ∷ []

abbrev pub long_slots : List Slot
long_slots = quiet ∷ quiet ∷ slot_with (asks_last 0x24100003 ∷ []) [] ∷ quiet ∷ quiet ∷ quiet ∷ []

abbrev pub long : Run
long = record {
  board = served;
  cells = 2;
  last_cells = 3;
  begin = long_begin;
  slots = long_slots;
  first =
      requested 0x04100000 (accepted 0x04100001) ∷ requested 0x04100400 (accepted 0x04100402) ∷ requested 0x24000000 (accepted 0x24000003)
      ∷ ticked (some 1) ∷ ticked (some 1) ∷ ticked (some 0) ∷ credited 0 1 (accepted tt) ∷ ticked none ∷ ticked none ∷ ticked none ∷ [];
  last =
      ticked none ∷ ticked none ∷ ticked none ∷ requested 0x24100003 (accepted 0x24100000) ∷ requested 0x24000003 (accepted 0x24000001)
      ∷ ticked (some 1) ∷ ticked (some 0) ∷ ticked none ∷ [];
}
