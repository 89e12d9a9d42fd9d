-- Numbers read as a show. Assumes nothing.
use Rattle.std.specs.Prelude.{ℕ, ◌+◌, ◌*◌, ◌/◌, List, length, get_or}
use Rattle.model.specs.Tables.{table}
use Rattle.mesh.specs.Reading.{stream_at}
use Rattle.show.specs.declared.Dome.{Dome}
use Rattle.show.specs.Show.{Show, ShowStream}

-- Three numbers for each stream, as the mesh reads them, and two for its cells: on its way, and on the last link. A number of cells that is missing is 0.
abbrev pub show_stream_at : (numbers cells : List ℕ) → ℕ → ShowStream
show_stream_at numbers cells i = record { stream = stream_at numbers i; cells = get_or cells (2 * i) 0; last_cells = get_or cells (2 * i + 1) 0 }

-- the show of some numbers: one or two left over after the streams have no effect, nor have cells of no stream
abbrev pub show_of : Dome → (numbers cells : List ℕ) → Show
show_of dome numbers cells = record {
  slots = dome.slots;
  frames = dome.frames;
  buffer = dome.buffer;
  streams = table (length numbers / 3) (show_stream_at numbers cells);
}
