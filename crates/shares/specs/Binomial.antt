-- Binomial coefficients: a second meaning of the count. RULES 17.1. Assumes nothing.
use Rattle.std.specs.Prelude.{ℕ, zero, suc, ◌+◌}

-- how many sets of n things there are among F: without the last thing, or with it
unfoldable pub choose : (F n : ℕ) → ℕ
choose F zero = 1
choose zero (suc n) = 0
choose (suc F) (suc n) = choose F (suc n) + choose F n
