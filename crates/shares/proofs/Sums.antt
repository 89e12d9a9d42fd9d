-- Sums by their terms. Assumes nothing.
use Prim.Native.Nat.{ℕ, zero, suc, ◌+◌, ◌≤◌, ◌<◌}
use mathlib.Core.Path.{◌≡◌, refl, ap}
use native.Mathlib.Decide.{dec_le, dec_lt}
use native.Mathlib.Omega.{arith}
use Rattle.model.specs.Tables.{sum}

pub sum_same : (n : ℕ) (f g : ℕ → ℕ) → ((k : ℕ) → k < n → f k ≡ g k) → sum n f ≡ sum n g
unfolding sum
sum_same zero f g h = refl
sum_same (suc n) f g h = omega (arith, h n (omega arith), sum_same n f g (λ k l. h k (omega arith)))

-- the first term, and the others
pub sum_first : (n : ℕ) (f : ℕ → ℕ) → sum (suc n) f ≡ f 0 + sum n (λ k. f (suc k))
unfolding sum
sum_first zero f = refl
sum_first (suc n) f = omega (arith, sum_first n f)

-- terms from the m-th on that are 0
pub sum-cut : (m n : ℕ) (f : ℕ → ℕ) → m ≤ n → ((k : ℕ) → m ≤ k → f k ≡ 0) → sum n f ≡ sum m f
unfolding sum
sum-cut m zero f l h = let none : 0 ≡ m = omega arith in ap (λ k. sum k f) none
sum-cut m (suc n) f l h = go (λ l'. sum-cut m n f l' h) (dec_le m n)
  where
    go : (m ≤ n → sum n f ≡ sum m f) → Dec (m ≤ n) → sum (suc n) f ≡ sum m f
    go fewer (yes y) = omega (arith, fewer y, h n y)
    go fewer (no y) = let all : suc n ≡ m = omega arith in ap (λ k. sum k f) all

-- ---- terms that are 0

pub sum-none : (n : ℕ) (f : ℕ → ℕ) → ((k : ℕ) → k < n → f k ≡ 0) → sum n f ≡ 0
unfolding sum
sum-none zero f h = refl
sum-none (suc n) f h = omega (arith, h n (omega arith), sum-none n f (λ k l. h k (omega arith)))

-- one term alone is not 0
pub sum_one : (n : ℕ) (f : ℕ → ℕ) (j : ℕ) → j < n → ((k : ℕ) → (k ≡ j → ⊥) → f k ≡ 0) → sum n f ≡ f j
unfolding sum
sum_one zero f j l h = absurd (omega arith)
sum_one (suc n) f j l h = go (λ l'. sum_one n f j l' h) (dec_lt j n)
  where
    go : (j < n → sum n f ≡ f j) → Dec (j < n) → sum (suc n) f ≡ f j
    go fewer (yes y) = omega (arith, fewer y, h n (λ e. omega arith))
    go fewer (no y) =
        let last : j ≡ n = omega arith in
        omega (arith, sum-none n f (λ k m. h k (λ e. omega arith)), ap f last)

-- some term is not 0
pub record Term (n : ℕ) (f : ℕ → ℕ) : Type 0 where
  pub place : ℕ
  pub below : place < n
  pub positive : 0 < f place

pub sum-some : (n : ℕ) (f : ℕ → ℕ) → 0 < sum n f → Term n f
unfolding sum
sum-some zero f h = absurd (omega arith)
sum-some (suc n) f h = go (sum-some n f) (dec_lt 0 (f n))
  where
    go : (0 < sum n f → Term n f) → Dec (0 < f n) → Term (suc n) f
    go fewer (yes y) = record { place = n; below = omega arith; positive = y }
    go fewer (no y) = let t = fewer (omega arith) in record { place = t.place; below = omega (arith, t.below); positive = t.positive }
