-- Boards that are not ours, and the runs on which `DomeArrives` sends them back; and runs of ours that show what each premise is for. RULES 27.13. Assumes
-- nothing.
--
-- A board that asks a waiting tile with the slot in which it came, or forgets one that is refused, does what ours does as long as no tile waits: so it is not
-- sent back here. One that credits on arrival or twice overruns cells, and in time. `CrossesWell` sends those back.
use Rattle.std.specs.Prelude.{ℕ, ◌+◌, ◌*◌, ◌≤◌, ◌<◌, List, ◌∷◌, [], length}
use Rattle.std.proofs.Math.Option.{some, none}
use Rattle.model.specs.Word.{join}
use Rattle.model.specs.Plan.{entry}
use Rattle.model.specs.Calls.{requested, credited, ticked, accepted, refused}
use Rattle.mesh.specs.Way.{way}
use Rattle.show.specs.Show.{Show, show_stream}
use Rattle.crossings.specs.Crossing.{served}
use Rattle.crossings.specs.Playing.{Board, Other}
use Rattle.crossings.specs.WrongBoards.{Habits, ours, on_arrival, board_by, comes_by, asks_next_slot}
use Rattle.showcrossings.specs.Edges.{Run, quiet, slot_with, asks_first, asks_last, long_begin}

-- ---- the boards

-- it credits no cell
abbrev pub credits_none : Board
credits_none = board_by on_arrival (comes_by on_arrival)

-- it asks for no tile
abbrev pub asks_none : Board
asks_none owner x = x

-- it asks for each tile with number 0
abbrev pub numbering_none : Habits
numbering_none = record {
  word = λ x i j.
      let l = x.leaving.state in
      join (record { destination = (entry l.plan j).destination; flow = j; quantum = 0; departure = l.current });
  granted = ours.granted;
  refused = ours.refused;
}

abbrev pub numbers_none : Board
numbers_none = board_by numbering_none (comes_by numbering_none)

-- ---- runs of these boards

-- the stream's first tile, in slot 0
abbrev pub one_tile : List Other
one_tile = asks_first 0x24000000 ∷ []

-- A board that asks in the next slot: the tile that comes in slot 3 is asked for in slot 4, after the neighbour is granted slots 5 and 6.
abbrev pub slot_later : Run
slot_later = record {
  board = asks_next_slot;
  cells = 2;
  last_cells = 3;
  begin = long_begin;
  slots = quiet ∷ quiet ∷ quiet ∷ slot_with (asks_last 0x24100000 ∷ asks_last 0x24100400 ∷ []) [] ∷ [];
  first =
      requested 0x04100000 (accepted 0x04100001) ∷ requested 0x04100400 (accepted 0x04100402) ∷ requested 0x24000000 (accepted 0x24000003)
      ∷ ticked (some 1) ∷ ticked (some 1) ∷ ticked (some 0) ∷ ticked none ∷ credited 0 3 (accepted tt) ∷ [];
  last =
      ticked none ∷ ticked none ∷ ticked none ∷ ticked none ∷ requested 0x24100000 (accepted 0x24100001) ∷ requested 0x24100400 (accepted 0x24100402)
      ∷ requested 0x24000000 (accepted 0x24000003) ∷ [];
}

-- The first link's two cells are full with the tiles of slots 1 and 3, and are not given back: the third tile, in slot 4, is refused.
abbrev pub cells_full : Run
cells_full = record {
  board = credits_none;
  cells = 2;
  last_cells = 3;
  begin = one_tile;
  slots = quiet ∷ slot_with [] (asks_first 0x24000402 ∷ []) ∷ quiet ∷ slot_with [] (asks_first 0x24000800 ∷ []) ∷ [];
  first =
      requested 0x24000000 (accepted 0x24000001) ∷ ticked (some 0) ∷ ticked none ∷ requested 0x24000402 (accepted 0x24000403) ∷ ticked (some 0)
      ∷ ticked none ∷ requested 0x24000800 (refused 12) ∷ [];
  last =
      ticked none ∷ requested 0x24000001 (accepted 0x24000002) ∷ ticked (some 0) ∷ ticked none ∷ requested 0x24000403 (accepted 0x24000400)
      ∷ ticked (some 0) ∷ [];
}

-- The tile of slot 1 is never asked for on the last link.
abbrev pub never_asked : Run
never_asked = record {
  board = asks_none;
  cells = 2;
  last_cells = 3;
  begin = one_tile;
  slots = quiet ∷ quiet ∷ quiet ∷ quiet ∷ quiet ∷ quiet ∷ [];
  first =
      requested 0x24000000 (accepted 0x24000001) ∷ ticked (some 0) ∷ ticked none ∷ ticked none ∷ ticked none ∷ ticked none ∷ ticked none ∷ [];
  last = ticked none ∷ ticked none ∷ ticked none ∷ ticked none ∷ ticked none ∷ ticked none ∷ [];
}

-- The second tile, of slot 3, is asked for with number 0 again.
abbrev pub same_number : Run
same_number = record {
  board = numbers_none;
  cells = 2;
  last_cells = 3;
  begin = one_tile;
  slots = quiet ∷ slot_with [] (asks_first 0x24000402 ∷ []) ∷ quiet ∷ [];
  first =
      requested 0x24000000 (accepted 0x24000001) ∷ ticked (some 0) ∷ credited 0 2 (accepted tt) ∷ ticked none
      ∷ requested 0x24000402 (accepted 0x24000403) ∷ ticked (some 0) ∷ [];
  last = ticked none ∷ requested 0x24000001 (accepted 0x24000002) ∷ ticked (some 0) ∷ ticked none ∷ requested 0x24000003 (refused 24) ∷ [];
}

-- ---- runs of ours, each without one premise

-- The source asks three times in slot 0, and has a share of 1.
abbrev pub three_at_once : Run
three_at_once = record {
  board = served;
  cells = 2;
  last_cells = 3;
  begin = asks_first 0x24000000 ∷ asks_first 0x24000400 ∷ asks_first 0x24000800 ∷ [];
  slots = [];
  first = requested 0x24000000 (accepted 0x24000001) ∷ requested 0x24000400 (accepted 0x24000402) ∷ requested 0x24000800 (refused 11) ∷ [];
  last = [];
}

-- The first link has one cell: in slot 2 it is held by the tile of slot 3.
abbrev pub one_cell_first : Run
one_cell_first = record {
  board = served;
  cells = 1;
  last_cells = 3;
  begin = long_begin;
  slots = quiet ∷ slot_with [] (asks_first 0x24000402 ∷ []) ∷ [];
  first =
      requested 0x04100000 (accepted 0x04100001) ∷ requested 0x04100400 (accepted 0x04100402) ∷ requested 0x24000000 (accepted 0x24000003)
      ∷ ticked (some 1) ∷ ticked (some 1) ∷ requested 0x24000402 (refused 12) ∷ [];
  last = ticked none ∷ ticked none ∷ [];
}

-- The last link has two cells: in slot 5, of frame 2, they are held by the tiles of slots 3 and 4, and the one of frame 1 has to fall free in frame 3 alone.
abbrev pub two_cells_last : Run
two_cells_last = record {
  board = served;
  cells = 2;
  last_cells = 2;
  begin = one_tile;
  slots =
      slot_with (asks_last 0x24100001 ∷ []) [] ∷ slot_with [] (asks_first 0x24000402 ∷ []) ∷ quiet ∷ slot_with [] (asks_first 0x24000800 ∷ []) ∷ quiet ∷ [];
  first =
      requested 0x24000000 (accepted 0x24000001) ∷ ticked (some 0) ∷ credited 0 3 (accepted tt) ∷ ticked none
      ∷ requested 0x24000402 (accepted 0x24000403) ∷ ticked (some 0) ∷ credited 0 0 (accepted tt) ∷ ticked none
      ∷ requested 0x24000800 (accepted 0x24000801) ∷ ticked (some 0) ∷ [];
  last =
      ticked none ∷ requested 0x24100001 (accepted 0x24100002) ∷ requested 0x24000001 (accepted 0x24000003) ∷ ticked (some 1) ∷ ticked (some 0)
      ∷ requested 0x24000403 (accepted 0x24000400) ∷ ticked (some 0) ∷ ticked none ∷ requested 0x24000801 (refused 12) ∷ [];
}

-- The last link has three cells, and none is given back.
abbrev pub not_given_back : Run
not_given_back = record {
  board = served;
  cells = 2;
  last_cells = 3;
  begin = one_tile;
  slots =
      slot_with (asks_last 0x24100001 ∷ []) [] ∷ slot_with [] (asks_first 0x24000402 ∷ []) ∷ quiet ∷ slot_with [] (asks_first 0x24000800 ∷ []) ∷ quiet
      ∷ slot_with [] (asks_first 0x24000C02 ∷ []) ∷ quiet ∷ [];
  first =
      requested 0x24000000 (accepted 0x24000001) ∷ ticked (some 0) ∷ credited 0 3 (accepted tt) ∷ ticked none
      ∷ requested 0x24000402 (accepted 0x24000403) ∷ ticked (some 0) ∷ credited 0 0 (accepted tt) ∷ ticked none
      ∷ requested 0x24000800 (accepted 0x24000801) ∷ ticked (some 0) ∷ credited 0 2 (accepted tt) ∷ ticked none
      ∷ requested 0x24000C02 (accepted 0x24000C03) ∷ ticked (some 0) ∷ [];
  last =
      ticked none ∷ requested 0x24100001 (accepted 0x24100002) ∷ requested 0x24000001 (accepted 0x24000003) ∷ ticked (some 1) ∷ ticked (some 0)
      ∷ requested 0x24000403 (accepted 0x24000400) ∷ ticked (some 0) ∷ ticked none ∷ requested 0x24000801 (accepted 0x24000802)
      ∷ ticked (some 0) ∷ ticked none ∷ requested 0x24000C03 (refused 12) ∷ [];
}

-- ---- fewer cells

-- `EnoughCells`, with so many fewer on the links before the last, and on the last
pub record ShortCells (short short_last : ℕ) (show : Show) (late i : ℕ) : Type 0 where
  pub usual : 1 < length (way (show_stream show i).stream) → 2 * (show_stream show i).stream.share ≤ (show_stream show i).cells + short
  pub last : (late + 2) * (show_stream show i).stream.share ≤ (show_stream show i).last_cells + short_last
