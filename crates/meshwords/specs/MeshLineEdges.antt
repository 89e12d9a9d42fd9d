-- Edges of the words `mesh` and `mesh-over`: numbers, and the line that answers them. RULES 20.4 and 20.6. Assumes nothing.
use Rattle.std.specs.Prelude.{ℕ, ◌≡◌, List, ◌∷◌, [], map, replicate}
use Prim.Native.String.{String}
use Rattle.model.specs.Listing.{text}

pub record Case : Type 0 where
  pub numbers : List ℕ
  pub line : String

abbrev says : List ℕ → String → Case
says numbers line = record { numbers = numbers; line = line }

-- Every line comes out as expected.
abbrev pub Pass : (answer : List ℕ → List ℕ) → List Case → Type 0
Pass answer cases = map (λ e. answer e.numbers) cases ≡ map (λ e. text e.line) cases

-- ---- whatever the word is

unfoldable pub either_line_edges : List Case
either_line_edges =
    -- no stream; streams that meet on no link
    says (64 ∷ []) "ok\n"
    ∷ says (2 ∷ 0 ∷ 9 ∷ 2 ∷ 8 ∷ 9 ∷ 1 ∷ []) "ok\n"
    -- the refusals before the links, the last for 65 streams
    ∷ says (65 ∷ []) "R 3\n"
    ∷ says (4 ∷ 9 ∷ 9 ∷ 1 ∷ []) "R 4\n"
    ∷ says (0 ∷ replicate 195 1) "R 25\n"
    -- no F, and numbers left over, whatever the others are
    ∷ says [] "? F is missing\n"
    ∷ says (0 ∷ 9 ∷ []) "? each stream has a source, a destination and a share: the numbers after F are no multiple of three\n"
    ∷ says (0 ∷ 9 ∷ 9 ∷ []) "? each stream has a source, a destination and a share: the numbers after F are no multiple of three\n"
    ∷ []

-- ---- links that are over

unfoldable pub mesh_line_edges : List Case
mesh_line_edges =
    says (2 ∷ 0 ∷ 9 ∷ 2 ∷ 1 ∷ 9 ∷ 1 ∷ []) "R 25\n"
    ∷ says (64 ∷ 3 ∷ 5 ∷ 36 ∷ 3 ∷ 4 ∷ 34 ∷ 4 ∷ 5 ∷ 30 ∷ []) "R 25\n"
    ∷ []

unfoldable pub over_line_edges : List Case
over_line_edges =
    says (2 ∷ 0 ∷ 9 ∷ 2 ∷ 1 ∷ 9 ∷ 1 ∷ []) "over 1 9 3\n"
    ∷ says (64 ∷ 3 ∷ 5 ∷ 36 ∷ 3 ∷ 4 ∷ 34 ∷ 4 ∷ 5 ∷ 30 ∷ []) "over 3 4 70 4 5 66\n"
    ∷ []
