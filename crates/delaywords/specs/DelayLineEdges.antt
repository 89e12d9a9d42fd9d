-- Edges of the word `delay`, one table: numbers, and the line that answers them. RULES 20.4 and 20.6. Assumes nothing.
use Rattle.std.specs.Prelude.{ℕ, ◌≡◌, List, ◌∷◌, [], map}
use Prim.Native.String.{String}
use Rattle.model.specs.Listing.{text}
use Rattle.delaywords.specs.DelayWord.{answer_to_delay}

pub record Case : Type 0 where
  pub numbers : List ℕ
  pub line : String

abbrev says : List ℕ → String → Case
says numbers line = record { numbers = numbers; line = line }

-- Every line comes out as expected.
abbrev pub Pass : List Case → Type 0
Pass cases = map (λ e. answer_to_delay e.numbers) cases ≡ map (λ e. text e.line) cases

unfoldable pub delay_line_edges : List Case
delay_line_edges =
    -- F, links, share and burst, in this order; slots, cells and cells where tiles are shown first
    says (4 ∷ 2 ∷ 2 ∷ 3 ∷ []) "19 4 6\n"
    ∷ says (64 ∷ 14 ∷ 1 ∷ 999 ∷ []) "64895 2 3\n"
    -- the refusals
    ∷ says (65 ∷ 2 ∷ 2 ∷ 3 ∷ []) "R 3\n"
    ∷ says (4 ∷ 2 ∷ 5 ∷ 3 ∷ []) "R 4\n"
    -- numbers that are no question
    ∷ says (4 ∷ 15 ∷ 2 ∷ 3 ∷ []) "? the links are 1 to 14, and the burst 0 to 999\n"
    ∷ says (4 ∷ 2 ∷ 2 ∷ 1000 ∷ []) "? the links are 1 to 14, and the burst 0 to 999\n"
    -- a number too few and one too many, whatever the others are
    ∷ says (65 ∷ 2 ∷ 2 ∷ []) "? the numbers are F, links, share and burst\n"
    ∷ says (65 ∷ 2 ∷ 2 ∷ 3 ∷ 1 ∷ []) "? the numbers are F, links, share and burst\n"
    ∷ []
