-- Tables that are read from an image: their elements. Assumes nothing.
use Prim.Native.Nat.{ℕ, ◌+◌, ◌≤◌, ◌<◌}
use mathlib.Core.Path.{◌≡◌, sym, ◌∙◌}
use mathlib.Core.List.{List}
use native.Mathlib.Decide.{dec_lt}
use native.Mathlib.Omega.{arith}
use lib.ListN.{length, get_or, replicate, length-replicate, get_or-replicate, get_or-eq_default}
use borrow.Author.Tests.{lt-ltb, le-ltb}
use Rattle.window.specs.Ranges.{in_range}
use Rattle.window.proofs.Tabulated.{table_same, table_of, replicate-table}
use Rattle.window.proofs.Ranges.{in-range, past-range, length-replaced, replaced-at, replaced-off}
use Rattle.tables.specs.Owners.{everywhere}
use Rattle.tables.specs.Rows.{row}
use Rattle.tables.proofs.Rows.{length-rows-of, row-of-rows}
use Rattle.tables.proofs.FreshTables.{length-everywhere, everywhere-at}
use Rattle.link.specs.Layout.{no_flow}
use Rattle.imagemodel.specs.Image.{field_at}
use Rattle.imagecheck.specs.declared.layout.Layout.{Layout}
use Rattle.imagecodec.specs.Reading.{table_from, part_at, flow_from, flows_from, row_from, holding_from, held_from}

-- ---- a table of 256

module _ (b : List ℕ) (at count spare : ℕ) where
  pub length_from : length (table_from b at count spare) ≡ 256
  length_from = length-replaced _ _ (everywhere spare) ∙ length-everywhere spare

  pub from_in : (q : ℕ) → q < count → q < 256 → get_or (table_from b at count spare) q 0 ≡ field_at b at q
  from_in q h l =
      replaced-at (in_range 0 count) (λ p x. field_at b at p) (everywhere spare) q 0 (omega (arith, length-everywhere spare))
      ∙ rw (in-range 0 count q (omega arith) h)

  pub from_past : (q : ℕ) → count ≤ q → q < 256 → get_or (table_from b at count spare) q 0 ≡ spare
  from_past q h l =
      replaced-off (in_range 0 count) (λ p x. field_at b at p) (everywhere spare) q 0 (past-range 0 count q h) ∙ everywhere-at spare q l

-- nothing is read past the end of a row
pub nothing-past : (b : List ℕ) (at count q : ℕ) → count ≤ q → get_or (table_from b at count 0) q 0 ≡ 0
nothing-past b at count q h = go (dec_lt q 256)
  where
    go : Dec (q < 256) → get_or (table_from b at count 0) q 0 ≡ 0
    go (yes l) = from_past b at count 0 q h l
    go (no l) = get_or-eq_default (table_from b at count 0) 0 (omega (arith, length_from b at count 0))

-- ---- sixteen flows

module _ (b : List ℕ) (y : Layout) (few : y.count ≤ 16) where
  pub flows-in : (i : ℕ) → i < y.count → get_or (flows_from b y) i no_flow ≡ flow_from b y.size (part_at y i)
  flows-in i h =
      replaced-at (in_range 0 y.count) (λ i f. flow_from b y.size (part_at y i)) (replicate 16 no_flow) i no_flow (rw length-replicate (omega arith))
      ∙ rw (in-range 0 y.count i (omega arith) h)

  pub flows-past : (i : ℕ) → y.count ≤ i → i < 16 → get_or (flows_from b y) i no_flow ≡ no_flow
  flows-past i h l = replaced-off _ _ (replicate 16 no_flow) i no_flow (past-range 0 y.count i h) ∙ get_or-replicate 16 i no_flow no_flow l

  pub length-flows : length (flows_from b y) ≡ 16
  length-flows = length-replaced _ _ (replicate 16 no_flow) ∙ length-replicate 16 no_flow

  -- ---- sixteen rows

  pub length-held : length (held_from b y) ≡ 4096
  unfolding held_from
  length-held = length-rows-of _

  pub rows_in : (i : ℕ) → i < y.count → row (held_from b y) i ≡ row_from b y i
  unfolding held_from
  rows_in i h =
      row-of-rows (holding_from b y) i (omega arith)
      ∙ table_of (row_from b y i) 256 (holding_from b y i) 0 (length_from b (part_at y i + 4) y.size 0) (λ p l. rw (lt-ltb i y.count h))

  pub rows-past : (i : ℕ) → y.count ≤ i → i < 16 → row (held_from b y) i ≡ everywhere 0
  unfolding held_from everywhere
  rows-past i h l =
      row-of-rows (holding_from b y) i l
      ∙ table_same 256 (holding_from b y i) (λ _. 0) (λ p lp. rw (le-ltb i y.count h))
      ∙ sym (replicate-table 256 0)
