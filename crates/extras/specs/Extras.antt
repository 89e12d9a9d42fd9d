-- Which optional layers to switch on. RULES 18.1 to 18.3. Assumes nothing.
use Rattle.std.specs.Prelude.{ℕ, zero, suc, ◌^◌, min, max, List, Bool, not, ◌&&◌, ◌||◌, cond, length, get_or, leb, ltb, eqb}
use Rattle.std.proofs.Math.Option.{Option, some, none}
use Rattle.model.specs.Tables.{any, sum, first_from, within}
use Rattle.model.specs.Calls.{Answer, accepted, refused, in_mask}

-- ---- what is given

-- RULES 18.1: an optional layer, the slots of a frame that it takes, and what it is worth
pub record Layer : Type 0 where
  pub share : ℕ
  pub worth : ℕ

-- RULES 18.1: what is given
pub record Extras : Type 0 where
  pub slots : ℕ  -- the slots left in a frame
  pub budget : ℕ  -- how many sets may be looked at
  pub layers : List Layer

abbrev pub no_layer : Layer
no_layer = record { share = 0; worth = 0 }

-- n
abbrev pub layer_count : Extras → ℕ
layer_count x = length x.layers

-- a layer's number is its place, from 0
abbrev pub layer : Extras → ℕ → Layer
layer x i = get_or x.layers i no_layer

-- ---- sets

-- the sum of a field over the layers that pass a test
abbrev pub sum_over : (t : ℕ → Bool) → (f : Layer → ℕ) → Extras → ℕ
sum_over t f x = sum (layer_count x) (λ i. cond (t i) (f (layer x i)) 0)

-- RULES 18.2: the number of a set is its mask, and bit i stands for layer i. What a set takes of a frame, and what it is worth:
unfoldable pub share_of : Extras → (mask : ℕ) → ℕ
share_of x mask = sum_over (in_mask mask) (λ e. e.share) x

unfoldable pub worth_of : Extras → (mask : ℕ) → ℕ
worth_of x mask = sum_over (in_mask mask) (λ e. e.worth) x

-- RULES 18.2: a set fits in the slots left
abbrev pub fits : Extras → (mask : ℕ) → Bool
fits x mask = leb (share_of x mask) x.slots

-- of n layers there are 2 to the power n sets, with the masks below that number
abbrev pub set_count : Extras → ℕ
set_count x = 2 ^ layer_count x

-- RULES 18.2: how many sets are looked at, from mask 0 upward: as many as the budget allows, and as there are
abbrev pub looked_at : Extras → ℕ
looked_at x = min x.budget (set_count x)

-- all sets are looked at
abbrev pub all_looked_at : Extras → Bool
all_looked_at x = leb (set_count x) x.budget

-- ---- the answer

-- the greatest f m over the m below k that pass t, and 0 where none does
unfoldable pub greatest : (k : ℕ) → (t : ℕ → Bool) → (f : ℕ → ℕ) → ℕ
greatest zero t f = 0
greatest (suc k) t f = max (cond (t k) (f k) 0) (greatest k t f)

-- RULES 18.3: the greatest worth of a set that fits, among the sets 0 to k - 1
abbrev pub best_worth : Extras → (k : ℕ) → ℕ
best_worth x k = greatest k (fits x) (worth_of x)

-- RULES 18.3: the lowest mask of a set among them that fits and has this worth; there is one, since the empty set fits (`some-best`)
abbrev pub lowest_best : Extras → (k : ℕ) → Option ℕ
lowest_best x k = first_from k 0 (λ m. fits x m && eqb (worth_of x m) (best_worth x k))

abbrev pub mask_found : Option ℕ → ℕ
mask_found (some mask) = mask
mask_found none = 0

abbrev pub best_mask : Extras → (k : ℕ) → ℕ
best_mask x k = mask_found (lowest_best x k)

-- what the layers that fit singly are worth together
abbrev pub singles_worth : Extras → ℕ
singles_worth x = sum_over (λ i. leb (layer x i).share x.slots) (λ e. e.worth) x

-- RULES 18.3: where no set is left to look at, the worth that was found; otherwise what all layers that fit singly are worth together
abbrev pub ceiling_of : Extras → ℕ
ceiling_of x = cond (all_looked_at x) (best_worth x (looked_at x)) (singles_worth x)

-- RULES 18.3: the answer
pub record Chosen : Type 0 where
  pub mask : ℕ
  pub worth : ℕ
  pub ceiling : ℕ

abbrev pub best : Extras → Chosen
best x = record { mask = best_mask x (looked_at x); worth = best_worth x (looked_at x); ceiling = ceiling_of x }

-- ---- the refusal

-- RULES 18.1: the limits of a layer
unfoldable pub layer_inside : Layer → Bool
layer_inside e = within 1 64 e.share && within 0 1000 e.worth

-- RULES 18.1: no set may be looked at, there are more than twelve layers, or the slots or a layer break their limits
unfoldable pub outside : Extras → Bool
outside x =
    eqb x.budget 0 || ltb 12 (layer_count x) || not (within 0 64 x.slots) || any (layer_count x) (λ i. not (layer_inside (layer x i)))

unfoldable pub choose : Extras → Answer Chosen
choose x = cond (outside x) (refused 27) (accepted (best x))
