-- What it is to be the best of the sets with the masks 0 to k - 1. RULES 18.3. Assumes nothing.
use Rattle.std.specs.Prelude.{ℕ, ◌≤◌, ◌<◌, ◌≡◌, true}
use Rattle.extras.specs.Extras.{Extras, fits, worth_of}

pub record Best (x : Extras) (k mask worth : ℕ) : Type 0 where
  pub looked_at : mask < k
  pub fitting : fits x mask ≡ true
  pub worth_is : worth_of x mask ≡ worth
  pub greatest : (m : ℕ) → m < k → fits x m ≡ true → worth_of x m ≤ worth
  -- on a tie the lowest mask: whatever fits below it is worth less
  pub lowest : (m : ℕ) → m < mask → fits x m ≡ true → worth_of x m < worth
