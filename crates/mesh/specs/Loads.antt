-- The table of loads while streams are added to it. Assumes nothing.
use Rattle.std.specs.Prelude.{ℕ, ◌+◌, ◌*◌, ◌/◌, ◌%◌, ◌≤◌, ◌<◌, ◌≡◌, List, Bool, ◌&&◌, cond, length, get_or, leb, ltb, eqb}
use Rattle.model.specs.Tables.{table, sum}
use Rattle.mesh.specs.Mesh.{Side, north, west, east, south, column, row}
use Rattle.mesh.specs.Streams.{share_on}
use Rattle.mesh.specs.Reading.{stream_at, side_at, link_at}

-- a whole table, and no load above a bound
pub record Small (loads : List ℕ) (most : ℕ) : Type 0 where
  pub whole : length loads ≡ 256
  pub small : (k : ℕ) → get_or loads k 0 ≤ most

-- the row of a board, or its column, in which a side's neighbour lies
abbrev pub line_of : Side → (node : ℕ) → ℕ
line_of north node = column node
line_of west node = row node
line_of east node = row node
line_of south node = column node

-- how far along it the board is
abbrev pub step_of : Side → (node : ℕ) → ℕ
step_of north node = row node
step_of west node = column node
step_of east node = column node
step_of south node = row node

-- a side, a line and a step of the mesh
pub record Spot (side line step : ℕ) : Type 0 where
  pub side_below : side < 4
  pub line_below : line < 8
  pub step_below : step < 8

-- k is the place of this side of the board that is so far along this line
pub record Place (side line step k : ℕ) : Type 0 where
  pub within : k < 256
  pub side_is : k % 4 ≡ side
  pub line_is : line_of (side_at side) (k / 4) ≡ line
  pub step_is : step_of (side_at side) (k / 4) ≡ step

-- the places of this side of a line's boards, from one of them up to before another
unfoldable pub in_line : (side line low high : ℕ) → (k : ℕ) → Bool
in_line side line low high k =
    eqb (k % 4) side && (eqb (line_of (side_at side) (k / 4)) line && (leb low (step_of (side_at side) (k / 4)) && ltb (step_of (side_at side) (k / 4)) high))

-- What is asked of the loads, the side, the line, where it ends, and the share that is added along it. A stream is added in four lines, to loads of at most 4096, which are 64 shares of 64: 4352 is 4096 and four times 64.
pub record Addable (loads : List ℕ) (side line high share : ℕ) : Type 0 where
  pub small : Small loads 4352
  pub side_below : side < 4
  pub line_below : line < 8
  pub high_most : high ≤ 8
  pub share_most : share ≤ 64

-- what is asked of the loads and of a stream that is added to them
pub record Joining (loads : List ℕ) (source destination share : ℕ) : Type 0 where
  pub small : Small loads 4096
  pub source_most : source ≤ 63
  pub destination_most : destination ≤ 63
  pub share_most : share ≤ 64

-- a share more at some places
unfoldable pub raised : (places : ℕ → Bool) → (share : ℕ) → List ℕ → List ℕ
raised places share loads = table 256 (λ k. get_or loads k 0 + cond (places k) share 0)

-- the first streams are there, at most 64 of them, each within the mesh and with a share of at most 64
pub record SmallStreams (numbers : List ℕ) (count : ℕ) : Type 0 where
  pub few : count ≤ 64
  pub there : 3 * count ≤ length numbers
  pub sources : (i : ℕ) → i < count → (stream_at numbers i).source ≤ 63
  pub destinations : (i : ℕ) → i < count → (stream_at numbers i).destination ≤ 63
  pub shares : (i : ℕ) → i < count → (stream_at numbers i).share ≤ 64

-- what the first streams put on the links
abbrev pub gathered_loads : (numbers : List ℕ) → (count : ℕ) → List ℕ
gathered_loads numbers count = table 256 (λ k. sum count (λ i. share_on (link_at k) (stream_at numbers i)))
