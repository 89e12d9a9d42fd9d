-- Sums over the numbers below a bound, and a loop that makes one. Assumes nothing.
use Prim.Native.Nat.{ℕ, zero, suc, ◌+◌, ◌*◌, ◌≤◌, ◌<◌}
use mathlib.Core.Path.{◌≡◌, refl, ap, ◌∙◌}
use native.Mathlib.Decide.{dec_lt}
use native.Mathlib.Omega.{arith}
use Rattle.model.specs.Tables.{sum}
use Rattle.model.proofs.Tallies.{sum-le, sum-const}
use Rattle.limits.proofs.Tests.{sum_more}

pub sum_same : (n : ℕ) (f g : ℕ → ℕ) → ((i : ℕ) → i < n → f i ≡ g i) → sum n f ≡ sum n g
sum_same n f g h = omega (arith, sum-le n f g (λ i l. omega (arith, h i l)), sum-le n g f (λ i l. omega (arith, h i l)))

-- each term is at most the sum
pub term-most : (n : ℕ) (f : ℕ → ℕ) (i : ℕ) → i < n → f i ≤ sum n f
unfolding sum
term-most zero f i h = absurd (omega arith)
term-most (suc n) f i h = go (λ l. term-most n f i l) (dec_lt i n)
  where
    go : (i < n → f i ≤ sum n f) → Dec (i < n) → f i ≤ f n + sum n f
    go rest (yes l) = omega (arith, rest l)
    go rest (no l) = let z : i ≡ n = omega arith in omega (arith, ap f z)

pub sum-zero : (n : ℕ) (f : ℕ → ℕ) → ((i : ℕ) → i < n → f i ≡ 0) → sum n f ≡ 0
sum-zero n f h = sum_same n f (λ i. 0) h ∙ sum-const n 0 ∙ omega arith

-- A loop that adds up f 0, f 1 and so on, n of them and each at most `most`: i of them are added.
pub record Summed (f : ℕ → ℕ) (most n i s : ℕ) : Type 0 where
  pub within : i ≤ n
  pub so_far : s ≡ sum i f
  pub bound : s ≤ most * i

pub none-added : (f : ℕ → ℕ) (most n : ℕ) → Summed f most n 0 0
unfolding sum
none-added f most n = record { within = omega arith; so_far = refl; bound = omega arith }

module _ {f : ℕ → ℕ} {most n i s : ℕ} (h : Summed f most n i s) where
  pub one-added : {a : ℕ} → i < n → a ≡ f i → a ≤ most → Summed f most n (i + 1) (s + a)
  one-added l e b = record {
    within = omega arith;
    so_far = omega (arith, sum_more f i, h.so_far);
    bound = omega (arith, h.bound, mul-one);
  }
    where
      mul-one : most * (i + 1) ≡ most * i + most
      mul-one = omega arith

  pub all-added : n ≤ i → s ≡ sum n f
  all-added l = let z : i ≡ n = omega (arith, h.within) in h.so_far ∙ ap (λ k. sum k f) z
