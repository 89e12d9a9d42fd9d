-- The word `extras`: which optional layers to switch on. Assumes nothing.
use Rattle.std.specs.Prelude.{ℕ, ◌+◌, ◌-◌, ◌*◌, ◌/◌, ◌%◌, List, not, cond, length, get_or, ltb, eqb}
use Rattle.model.specs.Tables.{table}
use Rattle.model.specs.Listing.{refusal_line}
use Rattle.model.specs.Calls.{Answer, accepted, refused}
use Rattle.extras.specs.Extras.{Layer, Extras, Chosen, choose}
use Rattle.replies.specs.Lines.{cannot, three_line}

-- how many layers are given
abbrev pub layers_asked : List ℕ → ℕ
layers_asked numbers = (length numbers - 2) / 2

-- share and worth for each layer, after the slots and the budget
abbrev pub layer_asked : List ℕ → ℕ → Layer
layer_asked numbers i = record { share = get_or numbers (2 + 2 * i) 0; worth = get_or numbers (3 + 2 * i) 0 }

-- the slots left, the budget, and then the layers, any number of them
abbrev pub extras_asked : List ℕ → Extras
extras_asked numbers = record { slots = get_or numbers 0 0; budget = get_or numbers 1 0; layers = table (layers_asked numbers) (layer_asked numbers) }

-- RULES 20.4: mask, worth and ceiling as three numbers, or `R` and the refusal
abbrev pub chosen_line : Answer Chosen → List ℕ
chosen_line (accepted c) = three_line c.mask c.worth c.ceiling
chosen_line (refused number) = refusal_line number

-- RULES 20.6: what is no question, and else the answer
unfoldable pub answer_to_extras : (numbers : List ℕ) → List ℕ
answer_to_extras numbers =
    cond (ltb (length numbers) 2) (cannot "the slots or the budget is missing")
    (cond (not (eqb ((length numbers - 2) % 2) 0)) (cannot "each layer has a share and a worth: the numbers after the budget are no multiple of two")
    (chosen_line (choose (extras_asked numbers))))
