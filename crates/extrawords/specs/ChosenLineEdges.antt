-- Edges of the word `extras`, one table: numbers, and the line that answers them. RULES 20.4 and 20.6. Assumes nothing.
use Rattle.std.specs.Prelude.{ℕ, ◌≡◌, List, ◌∷◌, [], map, replicate}
use Prim.Native.String.{String}
use Rattle.model.specs.Listing.{text}
use Rattle.extrawords.specs.ExtrasWord.{answer_to_extras}

pub record Case : Type 0 where
  pub numbers : List ℕ
  pub line : String

abbrev says : List ℕ → String → Case
says numbers line = record { numbers = numbers; line = line }

-- Every line comes out as expected.
abbrev pub Pass : List Case → Type 0
Pass cases = map (λ e. answer_to_extras e.numbers) cases ≡ map (λ e. text e.line) cases

unfoldable pub chosen_line_edges : List Case
chosen_line_edges =
    -- the slots left before the budget, a layer's share before its worth; mask, worth and ceiling
    says (1 ∷ 3 ∷ 1 ∷ 5 ∷ 1 ∷ 5 ∷ []) "1 5 10\n"
    ∷ says (1 ∷ 2 ∷ 64 ∷ 5 ∷ 1 ∷ 7 ∷ []) "0 0 7\n"
    ∷ says (4 ∷ 7 ∷ 3 ∷ 40 ∷ 2 ∷ 30 ∷ 2 ∷ 30 ∷ []) "6 60 100\n"
    -- no layers, and twelve
    ∷ says (64 ∷ 1 ∷ []) "0 0 0\n"
    ∷ says (64 ∷ 3 ∷ replicate 24 5) "1 5 60\n"
    -- the refusal: 65 slots left, and thirteen layers
    ∷ says (65 ∷ 1 ∷ []) "R 27\n"
    ∷ says (64 ∷ 1 ∷ replicate 26 1) "R 27\n"
    -- a number too few, and a share without a worth, whatever the others are
    ∷ says [] "? the slots or the budget is missing\n"
    ∷ says (65 ∷ []) "? the slots or the budget is missing\n"
    ∷ says (65 ∷ 0 ∷ 1 ∷ []) "? each layer has a share and a worth: the numbers after the budget are no multiple of two\n"
    ∷ []
