-- Edges of the word `count`, one table: numbers, and the line that answers them. RULES 20.4 and 20.6. Assumes nothing.
use Rattle.std.specs.Prelude.{ℕ, ◌≡◌, List, ◌∷◌, [], map}
use Prim.Native.String.{String}
use Rattle.model.specs.Listing.{text}
use Rattle.sharewords.specs.CountWord.{answer_to_count}

pub record Case : Type 0 where
  pub numbers : List ℕ
  pub line : String

abbrev says : List ℕ → String → Case
says numbers line = record { numbers = numbers; line = line }

-- Every line comes out as expected.
abbrev pub Pass : List Case → Type 0
Pass cases = map (λ e. answer_to_count e.numbers) cases ≡ map (λ e. text e.line) cases

unfoldable pub count_line_edges : List Case
count_line_edges =
    -- those accepted first
    says (4 ∷ 2 ∷ []) "6 10\n"
    ∷ says (1 ∷ 2 ∷ []) "0 1\n"
    ∷ says (3 ∷ 3 ∷ []) "1 26\n"
    -- the refusal
    ∷ says (17 ∷ 1 ∷ []) "R 26\n"
    ∷ says (16 ∷ 9 ∷ []) "R 26\n"
    -- a number too few and one too many, whatever the others are
    ∷ says (17 ∷ []) "? the numbers are F and n\n"
    ∷ says (17 ∷ 9 ∷ 1 ∷ []) "? the numbers are F and n\n"
    ∷ []
