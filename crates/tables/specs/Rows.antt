-- What the flows hold as it is stored: sixteen rows, one for each flow, of 256 positions. Where a row's positions stand is known to this crate
-- alone; others read a row, replace one, and know that there are sixteen. Assumes nothing.
use Rattle.std.specs.Prelude.{ℕ, ◌+◌, ◌*◌, ◌/◌, ◌%◌, ◌≤◌, List, ◌&&◌, length, get_or, ltb}
use Rattle.model.specs.Tables.{table}
use Rattle.state.specs.Parts.{part, with_part}
use Rattle.window.specs.Ranges.{in_range, replaced}

-- what flow i holds at each position
unfoldable pub row : List ℕ → ℕ → List ℕ
row h i = part h (256 * i) 256

-- there are sixteen rows, and what else there is stands after them
abbrev pub Sixteen : List ℕ → Type 0
Sixteen h = 4096 ≤ length h

-- the rows in which flow i holds f i p at position p
unfoldable pub rows_of : (ℕ → ℕ → ℕ) → List ℕ
rows_of f = table 4096 (λ k. f (k / 256) (k % 256))

-- row i replaced
unfoldable pub with_row : List ℕ → ℕ → List ℕ → List ℕ
with_row h i r = with_part h (256 * i) 256 r

-- in each of the first n rows the range from a to e replaced by what stands at `last` in that row
unfoldable pub carried_rows : (n last a e : ℕ) → List ℕ → List ℕ
carried_rows n last a e h =
    replaced (λ k. ltb (k / 256) n && in_range a e (k % 256)) (λ k x. get_or h (256 * (k / 256) + last) 0) h
