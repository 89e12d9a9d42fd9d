-- What is promised of an answer. RULES 18.3 and 18.4. Assumes nothing.
use Rattle.std.specs.Prelude.{ℕ, ◌≤◌, ◌<◌, ◌≡◌, true}
use Rattle.model.specs.Calls.{accepted}
use Rattle.extras.specs.Extras.{Extras, Chosen, fits, worth_of, set_count, looked_at, choose}
use Rattle.extras.specs.Best.{Best}

abbrev pub with_budget : Extras → ℕ → Extras
with_budget x budget = record { slots = x.slots; budget = budget; layers = x.layers }

-- RULES 18.4: an answer at least as good, with no smaller worth and no higher ceiling
pub record NoWorse (x : Extras) (c : Chosen) : Type 0 where
  pub chosen : Chosen
  pub answered : choose x ≡ accepted chosen
  pub worth_no_smaller : c.worth ≤ chosen.worth
  pub ceiling_no_higher : chosen.ceiling ≤ c.ceiling

-- RULES 18.4: what is promised of an answer c
pub record Promised (x : Extras) (c : Chosen) : Type 0 where
  -- the best of the sets looked at, by worth and then by mask; it fits
  pub best : Best x (looked_at x) c.mask c.worth
  -- of all sets none that fits is worth more than the ceiling
  pub ceiling_holds : (m : ℕ) → m < set_count x → fits x m ≡ true → worth_of x m ≤ c.ceiling
  pub worth_within : c.worth ≤ c.ceiling
  -- and where all were looked at, none that fits is worth more than the answer
  pub complete : set_count x ≤ x.budget → (m : ℕ) → m < set_count x → fits x m ≡ true → worth_of x m ≤ c.worth
  -- a larger budget is answered too, and no worse
  pub larger_budget : (budget : ℕ) → x.budget ≤ budget → NoWorse (with_budget x budget) c
