-- The rank of a position, which is how far on it lies from the first one of the head frame: as a difference, in a frame, and against CP's.
-- Assumes nothing.
use Rattle.std.proofs.Common.{◌≡◌, ℕ, suc, ◌+◌, ◌-◌, ◌*◌, ◌/◌, ◌<◌, ◌≤◌, max, Bool, not, ◌&&◌, eqb, ltb, leb, sym, ◌∙◌, true≢false, mul-le-mul_right, suc-mul, arith, le-ltb, lt-ltb, eq-eqb, le-leb}
use mathlib.Core.Bool.{and-false}
use native.Mathlib.Nat.{div-eq_of_lt-le}
use native.Mathlib.Decide.{dec_le, dec_lt}
use borrow.Author.Tests.{lt-leb}
use Rattle.model.specs.Tables.{ahead}
use Rattle.model.specs.Window.{rank, passed}
use Rattle.window.specs.declared.Window.{Window}
use Rattle.window.specs.Window.{window_of, size_of, base_of, Proper, ranks_from, FromRank}
use Rattle.window.proofs.GoingRound.{ahead-on, ahead-over}
use Rattle.window.proofs.Windows.{frame-fits}

abbrev pub rank_in : Window → ℕ → ℕ
rank_in w p = rank (window_of w) p

-- the rank of CP
abbrev current_rank : Window → ℕ
current_rank w = w.current - base_of w

-- a position of the window with rank k
record RankedAt (w : Window) (k : ℕ) : Type 0 where
  pub at : ℕ
  pub below : at < size_of w
  pub rank_is : rank_in w at ≡ k

module _ (w : Window) (v : Proper w) where
  pub rank_is : (p : ℕ) → rank_in w p ≡ ahead (size_of w) (base_of w) p
  unfolding rank
  rank_is p = rw (← v.head_is)

  -- from the head on to the end of the window
  pub rank-high : (p : ℕ) → p < size_of w → base_of w ≤ p → rank_in w p ≡ p - base_of w
  rank-high p l h = rank_is p ∙ ahead-on _ _ p h l

  -- from 0 up to the head
  pub rank-low : (p : ℕ) → p < base_of w → rank_in w p ≡ p + size_of w - base_of w
  rank-low p h = rank_is p ∙ ahead-over _ _ p h (omega arith)

  -- in a frame the ranks go up by one
  pub rank-slot : (j s : ℕ) → j < w.frames → s < w.slots → rank_in w (j * w.slots + s) ≡ rank_in w (j * w.slots) + s
  rank-slot j s hj hs = go (dec_le w.head j)
    where
      fits : j * w.slots + w.slots ≤ size_of w
      fits = frame-fits w.slots w.frames j hj

      go : Dec (w.head ≤ j) → rank_in w (j * w.slots + s) ≡ rank_in w (j * w.slots) + s
      go (yes d) =
          let base-below = mul-le-mul_right w.slots d in
          let first = rank-high (j * w.slots) (omega (arith, fits)) base-below in
          let here = rank-high (j * w.slots + s) (omega (arith, fits)) (omega arith) in
          omega arith
      go (no d) =
          let end_below : suc j * w.slots ≤ w.head * w.slots = mul-le-mul_right w.slots (omega arith) in
          let end = suc-mul j w.slots in
          let first = rank-low (j * w.slots) (omega arith) in
          let here = rank-low (j * w.slots + s) (omega arith) in
          omega arith

  -- passed: of no higher rank than CP
  pub passed_is : (p : ℕ) → p < size_of w → passed (window_of w) p ≡ leb (rank_in w p) (current_rank w)
  unfolding passed
  passed_is p l = rw (rank-high w.current (omega arith) v.base_low) (go (dec_le (rank_in w p) (current_rank w)) (dec_le (base_of w) p))
    where
      in_head : base_of w ≤ p → p ≤ w.current → p / w.slots ≡ w.current / w.slots
      in_head h k = div-eq_of_lt-le w.slots h (omega (arith, suc-mul w.head w.slots)) ∙ v.head_is

      go : Dec (rank_in w p ≤ current_rank w) → Dec (base_of w ≤ p)
          → eqb (p / w.slots) (w.current / w.slots) && not (ltb (current_rank w) (rank_in w p)) ≡ leb (rank_in w p) (current_rank w)
      go (yes d) (yes h) =
          let k : p ≤ w.current = omega (arith, rank-high p l h) in
          rw (eq-eqb _ _ (in_head h k), le-ltb (current_rank w) (rank_in w p) d, le-leb (rank_in w p) (current_rank w) d)
      go (yes d) (no h) = absurd (omega (arith, rank-low p (omega arith)))
      go (no d) h = rw (lt-ltb (current_rank w) (rank_in w p) (omega arith), lt-leb (rank_in w p) (current_rank w) (omega arith), and-false)

  -- not passed: of a higher rank than CP
  pub late-from : FromRank w (λ p. not (passed (window_of w) p)) (w.current + 1 - base_of w)
  late-from = record {
    is = λ p l. rw (passed_is p l) (go p (dec_le (rank_in w p) (current_rank w)));
    most = omega (arith, v.base_high, v.base_fits);
  }
    where
      go : (p : ℕ) → Dec (rank_in w p ≤ current_rank w)
          → leb (w.current + 1 - base_of w) (rank_in w p) ≡ not (leb (rank_in w p) (current_rank w))
      go p (yes d) =
          rw (le-leb (rank_in w p) (current_rank w) d, lt-leb (w.current + 1 - base_of w) (rank_in w p) (omega (arith, v.base_low)))
      go p (no d) =
          rw (lt-leb (rank_in w p) (current_rank w) (omega arith), le-leb (w.current + 1 - base_of w) (rank_in w p) (omega (arith, v.base_low)))

-- two lower bounds on ranks are one
pub ranks-both : (w : Window) (a b p : ℕ) → ranks_from w (max a b) p ≡ ranks_from w b p && ranks_from w a p
ranks-both w a b p = go (rank_in w p) (dec_le b (rank_in w p)) (dec_le a (rank_in w p))
  where
    go : (r : ℕ) → Dec (b ≤ r) → Dec (a ≤ r) → leb (max a b) r ≡ leb b r && leb a r
    go r (yes d) (yes e) = rw (le-leb b r d, le-leb a r e, le-leb (max a b) r (omega arith))
    go r (yes d) (no e) = rw (le-leb b r d, lt-leb a r (omega arith), lt-leb (max a b) r (omega arith))
    go r (no d) e = rw (lt-leb b r (omega arith), lt-leb (max a b) r (omega arith))

pub both-from : {w : Window} {t u : ℕ → Bool} {a b : ℕ} → FromRank w t a → FromRank w u b → FromRank w (λ p. u p && t p) (max a b)
both-from {w} {t} {u} {a} {b} x y = record {
  is = λ p l. rw (← x.is p l, ← y.is p l) (ranks-both w a b p);
  most = omega (arith, x.most, y.most);
}

-- one rank for each test
module _ {w : Window} (v : Proper w) where
  -- some position has it
  position-of : (k : ℕ) → k < size_of w → RankedAt w k
  position-of k h = go (dec_lt (base_of w + k) (size_of w))
    where
      go : Dec (base_of w + k < size_of w) → RankedAt w k
      go (yes d) = record { at = base_of w + k; below = d; rank_is = rank-high w v (base_of w + k) d (omega arith) ∙ omega arith }
      go (no d) =
          let low : base_of w + k - size_of w < base_of w = omega (arith, v.base_fits) in
          record { at = base_of w + k - size_of w; below = omega (arith, v.base_fits); rank_is = rank-low w v _ low ∙ omega arith }

  -- a lower rank and a higher one are told apart by the position of the lower
  apart : {t : ℕ → Bool} {a b : ℕ} → FromRank w t a → FromRank w t b → a < b → ⊥
  apart {t} {a} {b} x y h =
      let q = position-of a (omega (arith, y.most)) in
      let first = x.is q.at q.below in
      let second = y.is q.at q.below in
      true≢false (rw (q.rank_is, le-leb a a (omega arith)) at first ∙ sym (rw (q.rank_is, lt-leb b a h) at second))

  pub one_rank : {t : ℕ → Bool} {a b : ℕ} → FromRank w t a → FromRank w t b → a ≡ b
  one_rank {t} {a} {b} x y = go (dec_lt a b) (dec_lt b a)
    where
      go : Dec (a < b) → Dec (b < a) → a ≡ b
      go (yes d) e = absurd (apart x y d)
      go (no d) (yes e) = absurd (apart y x e)
      go (no d) (no e) = omega arith
