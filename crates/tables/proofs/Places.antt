-- The places of a row in the table: position p of row i stands at 256 * i + p. Read there, and one row replaced. Assumes nothing.
use Prim.Native.Nat.{ℕ, ◌+◌, ◌*◌, ◌≤◌, ◌<◌}
use mathlib.Core.Path.{◌≡◌}
use mathlib.Core.List.{List}
use native.Mathlib.Omega.{arith}
use lib.ListN.{length, get_or}
use Rattle.state.specs.Parts.{Beside}
use Rattle.state.proofs.Parts.{part_at, part-is, part_same, beside-part, with-part-in, with-part-is}
use Rattle.tables.specs.Rows.{row, with_row}

-- ---- a row read

pub row_at : (h : List ℕ) (i p : ℕ) → p < 256 → get_or (row h i) p 0 ≡ get_or h (256 * i + p) 0
unfolding row
row_at h i p b = part_at h (256 * i) 256 p b

-- a row is a list that agrees with it at every place
pub row_is : (h : List ℕ) (i : ℕ) (r : List ℕ) → length r ≡ 256 → ((p : ℕ) → p < 256 → get_or h (256 * i + p) 0 ≡ get_or r p 0) → row h i ≡ r
unfolding row
row_is h i r e same = part-is h (256 * i) 256 r e same

pub same_row : (h h' : List ℕ) (i : ℕ) → ((p : ℕ) → p < 256 → get_or h (256 * i + p) 0 ≡ get_or h' (256 * i + p) 0) → row h i ≡ row h' i
unfolding row
same_row h h' i e = part_same h' h (256 * i) 256 e

-- ---- one row replaced

module _ (h : List ℕ) (i : ℕ) (r : List ℕ) where
  pub beside-row : Beside (256 * i) (256 * i + 256) h (with_row h i r)
  unfolding with_row
  beside-row = beside-part h (256 * i) 256 r

  pub with-row-in : (p : ℕ) → p < 256 → 256 * i + p < length h → get_or (with_row h i r) (256 * i + p) 0 ≡ get_or r p 0
  unfolding with_row
  with-row-in p b l = with-part-in h (256 * i) 256 r p b l

  pub with-row-before : (k : ℕ) → k < 256 * i → get_or (with_row h i r) k 0 ≡ get_or h k 0
  with-row-before k b = beside-row.kept k (λ low _. omega arith)

  pub with-row-past : (k : ℕ) → 256 * i + 256 ≤ k → get_or (with_row h i r) k 0 ≡ get_or h k 0
  with-row-past k b = beside-row.kept k (λ _ high. omega arith)

  -- a table that agrees with it at every place
  pub with-row-is : (h' : List ℕ) → Beside (256 * i) (256 * i + 256) h h'
      → ((p : ℕ) → p < 256 → 256 * i + p < length h → get_or h' (256 * i + p) 0 ≡ get_or r p 0) → h' ≡ with_row h i r
  unfolding with_row
  with-row-is h' v same = with-part-is h (256 * i) 256 r h' v same
