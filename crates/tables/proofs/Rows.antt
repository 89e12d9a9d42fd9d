-- Sixteen rows, one for each flow: all of them given, one of them replaced, its own put back, and stored one after the other. Assumes nothing.
use Prim.Native.Nat.{ℕ, ◌+◌, ◌*◌, ◌/◌, ◌%◌, ◌≤◌, ◌<◌}
use mathlib.Core.Path.{◌≡◌, refl, sym, ap, ◌∙◌}
use mathlib.Core.List.{List}
use native.Mathlib.Decide.{dec_lt, ℕ_discrete}
use native.Mathlib.Omega.{arith}
use lib.ListN.{length, get_or}
use Rattle.model.specs.Tables.{table}
use Rattle.window.proofs.Tabulated.{get_d-table, length-table, table_of}
use Rattle.state.specs.Parts.{Beside}
use Rattle.state.specs.State.{with_held}
use Rattle.state.proofs.Parts.{length_part, length-with-part, with-own-part, beside-wider, beside-both, with-part-is}
use Rattle.tables.specs.Rows.{row, Sixteen, rows_of, with_row}
use Rattle.tables.proofs.Places.{row_at, row_is, same_row, beside-row, with-row-in, with-row-before, with-row-past}

pub length-row : (h : List ℕ) (i : ℕ) → length (row h i) ≡ 256
unfolding row
length-row h i = length_part h (256 * i) 256

-- ---- all rows given

-- rows that agree with given ones at every position
pub rows-of : (h : List ℕ) (f : ℕ → ℕ → ℕ) → length h ≡ 4096 → ((i p : ℕ) → i < 16 → p < 256 → f i p ≡ get_or (row h i) p 0) → rows_of f ≡ h
unfolding rows_of
rows-of h f long same = table_of h 4096 _ 0 long λ k b.
    let place : 256 * (k / 256) + k % 256 ≡ k = omega arith in
    same (k / 256) (k % 256) (omega arith) (omega arith)
    ∙ row_at h (k / 256) (k % 256) (omega arith)
    ∙ ap (λ (x : ℕ). get_or h x 0) place

pub length-rows-of : (f : ℕ → ℕ → ℕ) → length (rows_of f) ≡ 4096
unfolding rows_of
length-rows-of f = length-table 4096 (λ k. f (k / 256) (k % 256))

pub row-of-rows : (f : ℕ → ℕ → ℕ) (i : ℕ) → i < 16 → row (rows_of f) i ≡ table 256 (f i)
unfolding rows_of
row-of-rows f i h = row_is _ i (table 256 (f i)) (length-table 256 (f i)) λ p b.
    let of_row : (256 * i + p) / 256 ≡ i = omega arith in
    let place : (256 * i + p) % 256 ≡ p = omega arith in
    get_d-table 4096 (λ k. f (k / 256) (k % 256)) (256 * i + p) 0 (omega arith)
    ∙ rw (of_row, place) (sym (get_d-table 256 (f i) p 0 b))

-- ---- one row replaced

pub length-with-row : (h : List ℕ) (i : ℕ) (r : List ℕ) → length (with_row h i r) ≡ length h
unfolding with_row
length-with-row h i r = length-with-part h (256 * i) 256 r

module _ (h : List ℕ) (i : ℕ) (r : List ℕ) where
  pub row-with-same : Sixteen h → i < 16 → length r ≡ 256 → row (with_row h i r) i ≡ r
  row-with-same e b l = row_is _ i r l (λ p lp. with-row-in h i r p lp (omega (arith, e)))

  pub row-with-other : (j : ℕ) → (j ≡ i → ⊥) → row (with_row h i r) j ≡ row h j
  row-with-other j n = same_row _ _ j (λ p b. go p b (dec_lt j i))
    where
      go : (p : ℕ) → p < 256 → Dec (j < i) → get_or (with_row h i r) (256 * j + p) 0 ≡ get_or h (256 * j + p) 0
      go p b (yes d) = with-row-before h i r _ (omega arith)
      go p b (no d) = with-row-past h i r _ (let m : i < j = omega arith in omega arith)

-- its own row
pub with-own-row : (h : List ℕ) (i : ℕ) → with_row h i (row h i) ≡ h
unfolding row with_row
with-own-row h i = with-own-part h (256 * i) 256

-- ---- a loop that has stored one row for each of the first i flows

pub record Storing (r before h : List ℕ) (i : ℕ) : Type 0 where
  pub to : i ≤ 16
  pub beside : Beside 0 4096 before h
  pub stored : (j : ℕ) → j < i → row h j ≡ r

module _ {r before : List ℕ} (long : Sixteen before) where
  pub storing-none : Storing r before before 0
  storing-none = record { to = omega arith; beside = record { long = refl; kept = λ k _. refl }; stored = λ j h. absurd (omega arith) }

  module _ {h : List ℕ} {i : ℕ} (v : Storing r before h i) where
    still-long : Sixteen h
    still-long = omega (arith, v.beside.long)

    pub storing-more : {next : List ℕ} → length r ≡ 256 → i < 16 → next ≡ with_row h i r → Storing r before next (i + 1)
    storing-more {next} wide b e = rw e (record {
      to = omega arith;
      beside = beside-both v.beside (beside-wider (omega arith) (omega arith) (beside-row h i r));
      stored = λ j l. go j l (ℕ_discrete j i);
    })
      where
        go : (j : ℕ) → j < i + 1 → Dec (j ≡ i) → row (with_row h i r) j ≡ r
        go j l (yes d) = rw d (row-with-same h i r still-long b wide)
        go j l (no d) = row-with-other h i r j d ∙ v.stored j (omega arith)

    pub storing-done : (f : ℕ → ℕ → ℕ) → ((j p : ℕ) → p < 256 → f j p ≡ get_or r p 0) → 16 ≤ i → h ≡ with_held before (rows_of f)
    unfolding with_held rows_of
    storing-done f same b = with-part-is before 0 4096 _ h v.beside λ k l _.
        let place : 256 * (k / 256) + k % 256 ≡ 0 + k = omega arith in
        ap (λ (x : ℕ). get_or h x 0) (sym place)
        ∙ sym (row_at h (k / 256) (k % 256) (omega arith))
        ∙ ap (λ (x : List ℕ). get_or x (k % 256) 0) (v.stored (k / 256) (omega arith))
        ∙ sym (same (k / 256) (k % 256) (omega arith))
        ∙ sym (get_d-table 4096 (λ k. f (k / 256) (k % 256)) k 0 l)
