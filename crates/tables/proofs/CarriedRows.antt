-- A range of each of the first n rows replaced by what stands at one position of that row: row by row, and one row more. Assumes nothing.
use Prim.Native.Nat.{ℕ, ◌+◌, ◌*◌, ◌/◌, ◌%◌, ◌≤◌, ◌<◌}
use mathlib.Core.Path.{◌≡◌, sym, ap, ◌∙◌}
use mathlib.Core.List.{List}
use mathlib.Core.Bool.{◌&&◌, cond}
use native.Mathlib.Decide.{dec_lt, ℕ_discrete}
use native.Mathlib.Omega.{arith}
use lib.ListN.{length, get_or}
use lib.Dec.{ltb}
use lib.Seq.{ext_get_or}
use borrow.Author.Tests.{lt-ltb, le-ltb}
use Rattle.window.specs.Ranges.{in_range, replaced}
use Rattle.window.proofs.Ranges.{in-range, before-range, past-range, length-replaced, replaced-at, replaced-off}
use Rattle.tables.specs.Rows.{row, Sixteen, carried_rows}
use Rattle.tables.proofs.Places.{row_at, row_is, same_row}
use Rattle.tables.proofs.Rows.{length-row}

-- ---- row by row

module _ (n last a e : ℕ) (h : List ℕ) where
  pub length-carried : length (carried_rows n last a e h) ≡ length h
  unfolding carried_rows
  length-carried = length-replaced _ _ h

  pub row-of-carried : (i : ℕ) → i < n → i < 16 → Sixteen h → last < 256
      → row (carried_rows n last a e h) i ≡ replaced (in_range a e) (λ q x. get_or (row h i) last 0) (row h i)
  unfolding carried_rows
  row-of-carried i b l z lb = row_is _ i _ (length-replaced _ _ (row h i) ∙ length-row h i) λ p lp.
      let of_row : (256 * i + p) / 256 ≡ i = omega arith in
      let place : (256 * i + p) % 256 ≡ p = omega arith in
      replaced-at _ _ h (256 * i + p) 0 (omega (arith, z))
      ∙ rw (of_row, place, lt-ltb i n b, ← row_at h i p lp, ← row_at h i last lb)
      (sym (replaced-at _ _ (row h i) p 0 (omega (arith, length-row h i))))

  pub row-past-carried : (i : ℕ) → n ≤ i → row (carried_rows n last a e h) i ≡ row h i
  unfolding carried_rows
  row-past-carried i b = same_row _ _ i λ p lp.
      let of_row : (256 * i + p) / 256 ≡ i = omega arith in
      replaced-off _ _ h (256 * i + p) 0 (rw (of_row, le-ltb i n b))

-- ---- one row more

range-on : (s a e p : ℕ) → in_range (s + a) (s + e) (s + p) ≡ in_range a e p
range-on s a e p = go (dec_lt p a) (dec_lt p e)
  where
    go : Dec (p < a) → Dec (p < e) → in_range (s + a) (s + e) (s + p) ≡ in_range a e p
    go (yes h) x = before-range (s + a) (s + e) (s + p) (omega arith) ∙ sym (before-range a e p h)
    go (no h) (yes x) = in-range (s + a) (s + e) (s + p) (omega arith) (omega arith) ∙ sym (in-range a e p (omega arith) x)
    go (no h) (no x) = past-range (s + a) (s + e) (s + p) (omega arith) ∙ sym (past-range a e p (omega arith))

module _ (last a e : ℕ) (h : List ℕ) where
  carried_none : h ≡ carried_rows 0 last a e h
  unfolding carried_rows
  carried_none = ext_get_or 0 _ _ (sym (length-replaced _ _ h)) (λ k b. sym (replaced-off _ _ h k 0 (rw (le-ltb (k / 256) 0 (omega arith)))))

  module _ (n v : ℕ) (eb : e ≤ 256) (lb : last < 256) (ev : v ≡ get_or (carried_rows n last a e h) (256 * n + last) 0) where
    -- what row n has at the last position
    value-is : v ≡ get_or h (256 * n + last) 0
    unfolding carried_rows
    value-is =
        let of_row : (256 * n + last) / 256 ≡ n = omega arith in
        ev ∙ replaced-off _ _ h (256 * n + last) 0 (rw (of_row, le-ltb n n (omega arith)))

    abbrev carried_to : ℕ → ℕ → ℕ
    carried_to n k = cond (ltb (k / 256) n && in_range a e (k % 256)) (get_or h (256 * (k / 256) + last) 0) (get_or h k 0)

    more-at : (k : ℕ) → Dec (k / 256 < n) → Dec (k / 256 ≡ n)
        → cond (in_range (256 * n + a) (256 * n + e) k) v (carried_to n k) ≡ carried_to (n + 1) k
    more-at k (yes d) x =
        rw (before-range (256 * n + a) (256 * n + e) k (omega arith), lt-ltb (k / 256) n d, lt-ltb (k / 256) (n + 1) (omega arith))
    more-at k (no d) (yes x) =
        let in_row : in_range (256 * n + a) (256 * n + e) k ≡ in_range a e (k % 256) =
        ap (in_range (256 * n + a) (256 * n + e)) (omega arith) ∙ range-on (256 * n) a e (k % 256) in
        rw (in_row, le-ltb (k / 256) n (omega arith), lt-ltb (k / 256) (n + 1) (omega arith), x, value-is)
    more-at k (no d) (no x) =
        rw (past-range (256 * n + a) (256 * n + e) k (omega arith), le-ltb (k / 256) n (omega arith), le-ltb (k / 256) (n + 1) (omega arith))

    carried-more : replaced (in_range (256 * n + a) (256 * n + e)) (λ q x. v) (carried_rows n last a e h) ≡ carried_rows (n + 1) last a e h
    unfolding carried_rows
    carried-more =
        ext_get_or 0 _ _ (length-replaced _ _ before ∙ length-replaced _ _ h ∙ sym (length-replaced _ _ h)) λ k b.
        let l = rw (length-replaced, length-replaced) at b in
        replaced-at _ _ before k 0 (rw length-replaced l)
        ∙ ap (cond (in_range (256 * n + a) (256 * n + e) k) v) (replaced-at _ _ h k 0 l)
        ∙ more-at k (dec_lt (k / 256) n) (ℕ_discrete (k / 256) n)
        ∙ sym (replaced-at _ _ h k 0 l)
      where
        before : List ℕ
        before = carried_rows n last a e h

-- ---- a loop that has carried the first i of n rows

pub record Carrying (n last a e : ℕ) (before after : List ℕ) (i : ℕ) : Type 0 where
  pub to : i ≤ n
  pub is : after ≡ carried_rows i last a e before

module _ {n last a e : ℕ} {before : List ℕ} where
  pub carrying-none : Carrying n last a e before before 0
  carrying-none = record { to = omega arith; is = carried_none last a e before }

  module _ {after : List ℕ} {i : ℕ} (v : Carrying n last a e before after i) where
    pub carrying-more : i < n → e ≤ 256 → last < 256 → {value : ℕ} {next : List ℕ} → value ≡ get_or after (256 * i + last) 0
        → next ≡ replaced (in_range (256 * i + a) (256 * i + e)) (λ q x. value) after → Carrying n last a e before next (i + 1)
    carrying-more h eb lb {value} seen filled = record {
      to = omega arith;
      is =
          filled
          ∙ ap (replaced _ _) v.is
          ∙ carried-more last a e before i value eb lb (seen ∙ ap (λ (x : List ℕ). get_or x (256 * i + last) 0) v.is);
    }

    pub carrying-done : n ≤ i → after ≡ carried_rows n last a e before
    carrying-done h = let all : i ≡ n = omega (arith, v.to) in v.is ∙ ap (λ (m : ℕ). carried_rows m last a e before) all
