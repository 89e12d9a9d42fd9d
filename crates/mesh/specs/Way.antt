-- The way of a stream, link by link, first in its row. RULES 16.2. Assumes nothing.
use Rattle.std.specs.Prelude.{ℕ, ◌+◌, ◌-◌, ◌*◌, ◌<◌, ◌≡◌, List, ◌∷◌, [], ◌++◌, true, cond, length, get_or, ltb}
use Rattle.model.specs.Tables.{table}
use Rattle.mesh.specs.Mesh.{north, west, east, south, Link, link, to, column, row, in_mesh}
use Rattle.mesh.specs.Streams.{Stream, uses}

-- so many links to the east, or to another side, each from where the one before leads
abbrev pub eastward : (count node : ℕ) → List Link
eastward count node = table count (λ k. link east (node + k))

abbrev pub westward : (count node : ℕ) → List Link
westward count node = table count (λ k. link west (node - k))

abbrev pub southward : (count node : ℕ) → List Link
southward count node = table count (λ k. link south (node + 8 * k))

abbrev pub northward : (count node : ℕ) → List Link
northward count node = table count (λ k. link north (node - 8 * k))

-- from a board to a column of its row
abbrev pub along_row : (node target : ℕ) → List Link
along_row node target = cond (ltb (column node) target) (eastward (target - column node) node) (westward (column node - target) node)

-- from a board to a row of its column
abbrev pub along_column : (node target : ℕ) → List Link
along_column node target = cond (ltb (row node) target) (southward (target - row node) node) (northward (row node - target) node)

-- where the way turns: in the source's row and the destination's column
abbrev pub corner : Stream → ℕ
corner s = column s.destination + 8 * row s.source

unfoldable pub way : Stream → List Link
way s = along_row s.source (column s.destination) ++ along_column (corner s) (row s.destination)

-- ---- what is said of it

-- how far apart two numbers lie
abbrev pub apart : ℕ → ℕ → ℕ
apart a b = (a - b) + (b - a)

-- the Manhattan distance
abbrev pub distance : Stream → ℕ
distance s = apart (column s.source) (column s.destination) + apart (row s.source) (row s.destination)

-- Links that lead from a board to another: the first begins there, each link's end is the next one's start, and the last ends there.
pub data Walk : (from : ℕ) → List Link → (to : ℕ) → Type 0 where
  arrived : {node : ℕ} → Walk node [] node
  hop : {end : ℕ} {ls : List Link} → (l : Link) → Walk (to l) ls end → Walk l.from (l ∷ ls) end

-- a link stands in a list
pub record In (l : Link) (ls : List Link) : Type 0 where
  pub place : ℕ
  pub within : place < length ls
  pub there : get_or ls place l ≡ l

-- RULES 16.2: the way of a stream leads from the source to the destination, is as long as they lie apart, and its links are the links of the mesh
-- that the stream uses.
pub record RightWay (s : Stream) (ls : List Link) : Type 0 where
  pub walk : Walk s.source ls s.destination
  pub as_long : length ls ≡ distance s
  pub all_used : (l : Link) → In l ls → uses s l ≡ true
  pub none_else : (l : Link) → uses s l ≡ true → In l ls
  pub in_mesh : (l : Link) → In l ls → in_mesh l ≡ true
