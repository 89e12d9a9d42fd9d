-- Numbers read as streams, and the table of loads. Assumes nothing.
use Rattle.std.specs.Prelude.{ℕ, zero, suc, ◌+◌, ◌*◌, ◌/◌, ◌%◌, List, length, get_or}
use Rattle.model.specs.Tables.{table}
use Rattle.mesh.specs.Mesh.{Side, north, west, east, south, Link, link}
use Rattle.mesh.specs.Streams.{Stream, stream_with, load}

-- three numbers for each stream: where it comes from, where it goes to, and its share
abbrev pub stream_at : List ℕ → ℕ → Stream
stream_at numbers i = stream_with (get_or numbers (3 * i) 0) (get_or numbers (3 * i + 1) 0) (get_or numbers (3 * i + 2) 0)

-- the streams of some numbers: one or two numbers left over have no effect
abbrev pub streams_of : List ℕ → List Stream
streams_of numbers = table (length numbers / 3) (stream_at numbers)

-- the sides by number
abbrev pub side_at : ℕ → Side
side_at zero = north
side_at (suc zero) = west
side_at (suc (suc zero)) = east
side_at (suc (suc (suc k))) = south

-- the link at a place of the table: four places for each board
abbrev pub link_at : ℕ → Link
link_at k = link (side_at (k % 4)) (k / 4)

-- the table of loads
abbrev pub loads_of : List Stream → List ℕ
loads_of streams = table 256 (λ k. load streams (link_at k))
