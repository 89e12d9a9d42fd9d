-- Ranges of positions: elements of a list replaced, a test of every position of a range, and the last one that fails it. Assumes nothing.
use Rattle.std.specs.Prelude.{◌≡◌, ℕ, suc, ◌+◌, ◌<◌, ◌≤◌, Bool, true, false, cond, ◌&&◌, List, [], ◌∷◌, nat_le, nat_lt}

-- the range from a to e: the positions a, a + 1, .., e - 1
unfoldable pub in_range : ℕ → ℕ → ℕ → Bool
in_range a e q = nat_le a q && nat_lt q e

-- the list with its elements replaced at the positions that pass t: x at position i by f i x
module _ {A : Type 0} where
  unfoldable pub replaced : (ℕ → Bool) → (ℕ → A → A) → List A → List A
  replaced t f [] = []
  replaced t f (x ∷ xs) = cond (t 0) (f 0 x) x ∷ replaced (λ i. t (suc i)) (λ i. f (suc i)) xs

-- a position of the range from a to e that fails t
pub record Miss (t : ℕ → Bool) (a e : ℕ) : Type 0 where
  pub at : ℕ
  pub from : a ≤ at
  pub below : at < e
  pub fails : t at ≡ false

-- r says whether every position of the range from a to e passes t
pub record All (t : ℕ → Bool) (a e : ℕ) (r : Bool) : Type 0 where
  pub pass : r ≡ true → (q : ℕ) → a ≤ q → q < e → t q ≡ true
  pub miss : r ≡ false → Miss t a e

-- r is one more than the last position of the range from a to e that fails t, or a
pub record LastIn (t : ℕ → Bool) (a e r : ℕ) : Type 0 where
  pub low : a ≤ r
  pub high : r ≤ e
  pub miss : (q : ℕ) → a ≤ q → q + 1 ≡ r → t q ≡ false
  pub pass : (q : ℕ) → r ≤ q → q < e → t q ≡ true
