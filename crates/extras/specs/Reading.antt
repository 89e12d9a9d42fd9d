-- What is given and what is answered, read as the definitions have it. Assumes nothing.
use Rattle.std.specs.Prelude.{ℕ, false, ◌≡◌, get_or, Option, Some, None}
use Rattle.model.specs.Tables.{table}
use Rattle.model.specs.Calls.{Answer, accepted, refused}
use Rattle.extras.specs.declared.Extras.{Extras}
use Rattle.extras.specs.declared.Chosen.{Chosen}
use Rattle.extras.specs.Extras as model

abbrev pub layer_with : (share worth : ℕ) → model.Layer
layer_with share worth = record { share = share; worth = worth }

-- layer i
abbrev pub layer_at : Extras → ℕ → model.Layer
layer_at x i = layer_with (get_or x.shares i 0) (get_or x.worths i 0)

-- the first `count` layers: what stands past them has no effect
abbrev pub extras_for : Extras → model.Extras
extras_for x = record { slots = x.slots; budget = x.budget; layers = table x.count (layer_at x) }

abbrev pub chosen_for : Chosen → model.Chosen
chosen_for c = record { mask = c.mask; worth = c.worth; ceiling = c.ceiling }

-- each answer with the model's number and values: none is refusal 27
abbrev pub answer_for : Option Chosen → Answer model.Chosen
answer_for (Some c) = accepted (chosen_for c)
answer_for None = refused 27

-- the numbers are within their limits
pub record Inside (x : Extras) : Type 0 where
  pub inside : model.outside (extras_for x) ≡ false
