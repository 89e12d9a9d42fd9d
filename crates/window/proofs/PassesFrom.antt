-- The rank from which on every position passes a test, by the last position that fails it. Assumes nothing.
use Rattle.std.proofs.Common.{◌≡◌, ℕ, ◌+◌, ◌-◌, ◌<◌, ◌≤◌, Bool, true, false, leb, sym, refl, arith, le-leb}
use native.Mathlib.Decide.{dec_lt, dec_le}
use borrow.Author.Tests.{lt-leb}
use Rattle.model.specs.Window.{every_from}
use Rattle.window.specs.declared.Window.{Window}
use Rattle.window.specs.Ranges.{All, LastIn}
use Rattle.window.specs.Window.{window_of, size_of, base_of, Proper, FromRank}
use Rattle.window.proofs.Ranks.{rank_in, rank-high, rank-low}
use Rattle.window.proofs.FromOn.{every-from, miss-from}

-- every position of rank r or more passes t, and r is no higher than it must be
pub record PassesFrom (w : Window) (t : ℕ → Bool) (r : ℕ) : Type 0 where
  pub pass : (q : ℕ) → q < size_of w → r ≤ rank_in w q → t q ≡ true
  pub miss : (p : ℕ) → p < size_of w → rank_in w p < r → every_from (window_of w) p t ≡ false
  pub most : r ≤ size_of w

module _ (w : Window) (v : Proper w) (t : ℕ → Bool) where
  pub passes-from : {r : ℕ} → PassesFrom w t r → FromRank w (λ p. every_from (window_of w) p t) r
  passes-from {r} x = record { is = λ p l. go p l (dec_le r (rank_in w p)); most = x.most }
    where
      go : (p : ℕ) → p < size_of w → Dec (r ≤ rank_in w p) → leb r (rank_in w p) ≡ every_from (window_of w) p t
      go p l (yes d) = rw (le-leb r (rank_in w p) d) (sym (every-from w v p l t (λ q lq h. x.pass q lq (omega arith))))
      go p l (no d) = rw (lt-leb r (rank_in w p) (omega arith)) (sym (x.miss p l (omega arith)))

  -- all positions pass
  pub passes-all : All t 0 (size_of w) true → PassesFrom w t 0
  passes-all x = record { pass = λ q l _. x.pass refl q (omega arith) l; miss = λ p l h. absurd (omega arith); most = omega arith }

  -- some position before the head fails: the last that does is k - 1
  pub passes-low : (k : ℕ) → LastIn t 0 (base_of w) k → 0 < k → PassesFrom w t (k + size_of w - base_of w)
  passes-low k x h = record { pass = λ q l r. pass q l r (dec_lt q (base_of w)); miss = miss; most = omega (arith, x.high) }
    where
      last-rank : rank_in w (k - 1) ≡ k - 1 + size_of w - base_of w
      last-rank = rank-low w v (k - 1) (omega (arith, x.high))

      pass : (q : ℕ) → q < size_of w → k + size_of w - base_of w ≤ rank_in w q → Dec (q < base_of w) → t q ≡ true
      pass q l r (yes d) = x.pass q (omega (arith, rank-low w v q d)) d
      pass q l r (no d) = absurd (omega (arith, rank-high w v q l (omega arith)))

      miss : (p : ℕ) → p < size_of w → rank_in w p < k + size_of w - base_of w → every_from (window_of w) p t ≡ false
      miss p l r =
          miss-from w v p l t (k - 1) (omega (arith, x.high)) (omega (arith, x.high, last-rank)) (x.miss (k - 1) (omega arith) (omega arith))

  -- none before the head fails; of the others the last that does is k - 1, or none does and k is the head's first position
  pub passes-high : (k : ℕ) → LastIn t 0 (base_of w) 0 → LastIn t (base_of w) (size_of w) k → PassesFrom w t (k - base_of w)
  passes-high k y x = record { pass = λ q l r. pass q l r (dec_lt q (base_of w)); miss = miss; most = omega (arith, x.high) }
    where
      pass : (q : ℕ) → q < size_of w → k - base_of w ≤ rank_in w q → Dec (q < base_of w) → t q ≡ true
      pass q l r (yes d) = y.pass q (omega arith) d
      pass q l r (no d) = x.pass q (omega (arith, rank-high w v q l (omega arith))) l

      miss : (p : ℕ) → p < size_of w → rank_in w p < k - base_of w → every_from (window_of w) p t ≡ false
      miss p l r =
          let last-rank = rank-high w v (k - 1) (omega (arith, x.high)) (omega arith) in
          miss-from w v p l t (k - 1) (omega (arith, x.high)) (omega (arith, x.high)) (x.miss (k - 1) (omega arith) (omega arith))
