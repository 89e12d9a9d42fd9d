-- What the search's functions say of arrays and of two sets. Assumes nothing.
use Rattle.std.specs.Prelude.{ℕ, ◌≤◌, ◌<◌, cond, List, get_or, ltb, leb}
use Rattle.model.specs.Tables.{sum}
use Rattle.model.specs.Calls.{in_mask}
use Rattle.extras.specs.declared.search.SetWorth.{SetWorth}

-- n is at most 12, and each of the first n amounts at most 1,000
pub record Amounts (amounts : List ℕ) (n : ℕ) : Type 0 where
  pub few : n ≤ 12
  pub small : (i : ℕ) → i < n → get_or amounts i 0 ≤ 1000

-- the sum of the first n amounts over a set
abbrev pub sum_in : (amounts : List ℕ) → (n mask : ℕ) → ℕ
sum_in amounts n mask = sum n (λ i. cond (in_mask mask i) (get_or amounts i 0) 0)

-- of two sets the second, if it fits and is worth more
abbrev pub better_of : (best set : SetWorth) → (share slots : ℕ) → SetWorth
better_of best set share slots = cond (ltb slots share) best (cond (leb set.worth best.worth) best set)
