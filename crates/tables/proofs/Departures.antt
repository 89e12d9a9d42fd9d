-- The positions at which a tile with a departure can leave, as those from a rank on. Assumes nothing.
use Prim.Native.Nat.{ℕ, ◌+◌, ◌-◌, ◌≤◌, ◌<◌}
use mathlib.Core.Path.{◌≡◌, sym, ◌∙◌}
use mathlib.Core.Bool.{true, false, true≢false}
use native.Mathlib.Nat.{mod-lt}
use native.Mathlib.Decide.{dec_le, dec_lt}
use native.Mathlib.Omega.{arith}
use lib.Dec.{leb, ltb}
use borrow.Author.Tests.{le-leb, lt-leb, lt-ltb, le-ltb}
use Rattle.model.specs.Tables.{ahead}
use Rattle.model.specs.Window.{passed}
use Rattle.model.specs.Request.{can_leave}
use Rattle.window.specs.declared.Window.{Window}
use Rattle.window.specs.Window.{window_of, size_of, base_of, Proper, FromRank}
use Rattle.window.proofs.Ranks.{rank_in, rank_is, rank-high, passed_is}

-- a rank lies below T
pub rank_below : (w : Window) → Proper w → (p : ℕ) → rank_in w p < size_of w
unfolding ahead
rank_below w v p = rw (rank_is w v p) (mod-lt _ (omega (arith, v.measures.current_below)))

module _ (w : Window) (v : Proper w) (d : ℕ) (there : d < size_of w) where
  -- the rank of CP
  current-rank : rank_in w w.current ≡ w.current - base_of w
  current-rank = rank-high w v w.current v.measures.current_below v.base_low

  -- the tile has come: anywhere
  pub leaves-anywhere : passed (window_of w) d ≡ true → FromRank w (can_leave (window_of w) d) 0
  unfolding can_leave
  leaves-anywhere come = record { is = λ p l. rw (le-ltb (rank_in w w.current) (rank_in w d) low) (le-leb 0 (rank_in w p) (omega arith)); most = omega arith }
    where
      low : rank_in w d ≤ rank_in w w.current
      low = go (dec_le (rank_in w d) (w.current - base_of w))
        where
          go : Dec (rank_in w d ≤ w.current - base_of w) → rank_in w d ≤ rank_in w w.current
          go (yes h) = rw current-rank h
          go (no h) = absurd (true≢false (sym come ∙ passed_is w v d there ∙ lt-leb (rank_in w d) (w.current - base_of w) (omega arith)))

  -- it has not: after the departure
  pub leaves_after : passed (window_of w) d ≡ false → FromRank w (can_leave (window_of w) d) (rank_in w d + 1)
  unfolding can_leave
  leaves_after late = record {
    is = λ p l. rw (lt-ltb (rank_in w w.current) (rank_in w d) high) (after p (dec_lt (rank_in w d) (rank_in w p)));
    most = omega (arith, rank_below w v d);
  }
    where
      high : rank_in w w.current < rank_in w d
      high = go (dec_le (rank_in w d) (w.current - base_of w))
        where
          go : Dec (rank_in w d ≤ w.current - base_of w) → rank_in w w.current < rank_in w d
          go (yes h) = absurd (true≢false (sym (le-leb (rank_in w d) (w.current - base_of w) h) ∙ sym (passed_is w v d there) ∙ late))
          go (no h) = rw current-rank (omega arith)

      after : (p : ℕ) → Dec (rank_in w d < rank_in w p) → leb (rank_in w d + 1) (rank_in w p) ≡ ltb (rank_in w d) (rank_in w p)
      after p (yes h) = le-leb (rank_in w d + 1) (rank_in w p) (omega arith) ∙ sym (lt-ltb (rank_in w d) (rank_in w p) h)
      after p (no h) = lt-leb (rank_in w d + 1) (rank_in w p) (omega arith) ∙ sym (le-ltb (rank_in w d) (rank_in w p) (omega arith))
