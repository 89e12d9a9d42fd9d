-- From p on as the late places of a row: held there, and moved there. Assumes nothing.
use Prim.Native.Nat.{ℕ, ◌+◌, ◌-◌, ◌*◌, ◌≤◌, ◌<◌, max}
use mathlib.Core.Path.{◌≡◌, refl}
use mathlib.Core.List.{List}
use mathlib.Core.Bool.{Bool, true, false, not, ◌||◌, cond}
use native.Mathlib.Nat.{max-zero}
use native.Mathlib.Decide.{dec_lt}
use native.Mathlib.Omega.{arith}
use lib.ListN.{get_or}
use lib.Dec.{leb, ltb}
use borrow.Author.Tests.{le-leb, lt-leb, lt-ltb, le-ltb}
use Rattle.model.specs.Window.{every_from}
use Rattle.window.specs.declared.Window.{Window}
use Rattle.window.specs.Bytes.{wrapped}
use Rattle.window.specs.Ranges.{in_range, replaced, All}
use Rattle.window.specs.Window.{window_of, size_of, base_of, Proper, from_in}
use Rattle.window.proofs.Bytes.{wrapped-not}
use Rattle.window.proofs.Ranges.{replaced-at}
use Rattle.window.proofs.Ranks.{rank_in, rank-high, rank-low}
use Rattle.window.proofs.FromOn.{from_is, from_past, all_from}
use Rattle.tables.specs.Rows.{row}
use Rattle.tables.specs.Padded.{on_from, pad}
use Rattle.tables.specs.Holdings.{some_held, largest, most_held, shifted_row, shifted}
use Rattle.tables.proofs.Places.{row_at}
use Rattle.tables.proofs.Rows.{length-row}
use Rattle.tables.proofs.Largest.{largest-same}
use Rattle.state.proofs.PartRanges.{all-in-part}
use Rattle.tables.proofs.RowRanges.{replaced-in-row}

module _ (w : Window) (v : Proper w) (p : ℕ) (lp : p < size_of w) where
  -- ---- the pad

  -- going round 256, positions have the order of their ranks
  module _ (q : ℕ) (l : q < size_of w) where
    lower-rank : on_from (base_of w) q < on_from (base_of w) p → rank_in w q < rank_in w p
    lower-rank h = go (dec_lt q (base_of w)) (dec_lt p (base_of w))
      where
        go : Dec (q < base_of w) → Dec (p < base_of w) → rank_in w q < rank_in w p
        go (yes a) (yes b) = omega (arith, h, rank-low w v q a, rank-low w v p b, v.measures.positions_most, v.base_fits)
        go (yes a) (no b) = omega (arith, h, v.measures.positions_most, v.base_fits)
        go (no a) (yes b) = omega (arith, rank-high w v q l (omega arith), rank-low w v p b)
        go (no a) (no b) = omega (arith, h, rank-high w v q l (omega arith), rank-high w v p lp (omega arith), v.measures.positions_most)

    no-lower-rank : on_from (base_of w) p ≤ on_from (base_of w) q → rank_in w p ≤ rank_in w q
    no-lower-rank h = go (dec_lt q (base_of w)) (dec_lt p (base_of w))
      where
        go : Dec (q < base_of w) → Dec (p < base_of w) → rank_in w p ≤ rank_in w q
        go (yes a) (yes b) = omega (arith, h, rank-low w v q a, rank-low w v p b, v.measures.positions_most, v.base_fits)
        go (yes a) (no b) = omega (arith, rank-low w v q a, rank-high w v p lp (omega arith))
        go (no a) (yes b) = omega (arith, h, v.measures.positions_most, v.base_fits)
        go (no a) (no b) = omega (arith, h, rank-high w v q l (omega arith), rank-high w v p lp (omega arith), v.measures.positions_most)

    -- the places before p are the early ones
    pad-from : (early late : ℕ)
        → pad (base_of w) (on_from (base_of w) p) early late q ≡ cond (from_in (window_of w) p q) late early
    pad-from early late = rw (from_is w v p lp q l) (go (dec_lt (on_from (base_of w) q) (on_from (base_of w) p)))
      where
        go : Dec (on_from (base_of w) q < on_from (base_of w) p)
            → pad (base_of w) (on_from (base_of w) p) early late q ≡ cond (leb (rank_in w p) (rank_in w q)) late early
        go (yes d) = rw (lt-ltb _ _ d, lt-leb _ _ (lower-rank d))
        go (no d) = rw (le-ltb (on_from (base_of w) q) (on_from (base_of w) p) (omega arith), le-leb _ _ (no-lower-rank (omega arith)))

  -- ---- what row i holds

  -- how far p lies on
  abbrev turn : ℕ
  turn = on_from (base_of w) p

  module _ (h : List ℕ) (i : ℕ) where
    -- the pad counts as held before p, and nowhere else
    pub held-padded : (r : Bool)
        → All (λ k. ltb 0 (max (get_or h k 0) (pad (base_of w) turn 255 0 (k - 256 * i)))) (256 * i) (256 * i + size_of w) r
        → r ≡ every_from (window_of w) p (some_held (row h i))
    held-padded r x = all_from w v p lp _ _ r (λ q l. refl) (all-in-part _ _ (256 * i) 0 (size_of w) at (omega arith) refl x)
      where
        padded : (b : Bool) (y : ℕ) → ltb 0 (max y (cond b 0 255)) ≡ not b || ltb 0 y
        padded true y = rw max-zero
        padded false y = lt-ltb 0 (max y 255) (omega arith)

        at : (q : ℕ) → q < size_of w
            → ltb 0 (max (get_or h (256 * i + q) 0) (pad (base_of w) turn 255 0 (256 * i + q - 256 * i)))
            ≡ not (from_in (window_of w) p q) || some_held (row h i) q
        at q l =
            let place : 256 * i + q - 256 * i ≡ q = omega arith in
            rw (place, pad-from q l 255 0, row_at h i q (omega (arith, v.measures.positions_most))) (padded (from_in (window_of w) p q) _)

    -- what is held moves from p on, and nowhere else
    pub shifted-padded : (by : ℕ)
        → replaced (in_range (256 * i) (256 * i + size_of w)) (λ k x. wrapped (pad (base_of w) turn 0 by (k - 256 * i)) x) h
        ≡ shifted (window_of w) by i p h
    shifted-padded by =
        replaced-in-row h i (size_of w) _ (λ q x. wrapped (pad (base_of w) turn 0 by q) x) _ v.measures.positions_most
        (λ q x l. rw (pad-from q l 0 by) (padded (from_in (window_of w) p q) x)) (from_past w v p lp)
      where
        padded : (b : Bool) (x : ℕ) → wrapped (cond b by 0) x ≡ cond b (wrapped by x) x
        padded true x = refl
        padded false x = wrapped-not x

    -- the most that row i holds then
    pub most-padded : largest (256 * i + size_of w - 256 * i) (λ k. wrapped (pad (base_of w) turn 0 255 k) (get_or h (256 * i + k) 0))
        ≡ most_held (size_of w) (shifted_row (window_of w) 255 p (row h i))
    most-padded =
        let size : 256 * i + size_of w - 256 * i ≡ size_of w = omega arith in
        rw size (largest-same (size_of w) _ _ (λ q l. at q l (from_in (window_of w) p q) refl))
      where
        at : (q : ℕ) → q < size_of w → (b : Bool) → from_in (window_of w) p q ≡ b
            → wrapped (pad (base_of w) turn 0 255 q) (get_or h (256 * i + q) 0) ≡ get_or (shifted_row (window_of w) 255 p (row h i)) q 0
        at q l b e =
            let most = v.measures.positions_most in
            let there = replaced-at (from_in (window_of w) p) (λ _. wrapped 255) (row h i) q 0 (omega (arith, length-row h i, most)) in
            rw (there, row_at h i q (omega (arith, most)), pad-from q l 0 255, e) (padded b)
          where
            padded : (b : Bool) → wrapped (cond b 255 0) (get_or h (256 * i + q) 0) ≡ cond b (wrapped 255 (get_or h (256 * i + q) 0)) (get_or h (256 * i + q) 0)
            padded true = refl
            padded false = wrapped-not (get_or h (256 * i + q) 0)
