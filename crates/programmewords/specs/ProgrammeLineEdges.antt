-- Edges of the word `programme`, one table: numbers, and the line that answers them. RULES 20.4 and 20.6. Assumes nothing.
use Rattle.std.specs.Prelude.{ℕ, ◌+◌, ◌*◌, ◌≡◌}
use Prim.Native.String.{String}
use mathlib.Core.List.{List, ◌∷◌, [], map, ◌++◌, flat_map}
use Rattle.model.specs.Tables.{table}
use Rattle.model.specs.Listing.{text}
use Rattle.programmewords.specs.Programmes.{answer_to_programme}

pub record Case : Type 0 where
  pub numbers : List ℕ
  pub line : String

abbrev says : List ℕ → String → Case
says numbers line = record { numbers = numbers; line = line }

-- Every line comes out as expected.
abbrev pub Pass : List Case → Type 0
Pass cases = map (λ e. answer_to_programme e.numbers) cases ≡ map (λ e. text e.line) cases

-- ---- what is tried

abbrev entry_of : (start end number : ℕ) → List ℕ
entry_of start end number = start ∷ end ∷ number ∷ []

abbrev touching : List ℕ
touching = entry_of 0 10 5 ++ entry_of 10 20 6

abbrev sharing : List ℕ
sharing = entry_of 0 10 5 ++ entry_of 5 20 6

-- so many entries of ten minutes, each of its own plan, that touch
abbrev filled : ℕ → List ℕ
filled n = flat_map (λ i. entry_of (10 * i) (10 * i + 10) i) (table n (λ i. i))

unfoldable pub programme_line_edges : List Case
programme_line_edges =
    -- the minute, and then start, end and plan
    says (9 ∷ touching) "plan 5\n"
    ∷ says (10 ∷ touching) "plan 6\n"
    ∷ says (20 ∷ touching) "dark\n"
    ∷ says (639 ∷ filled 64) "plan 63\n"
    -- no entry
    ∷ says (0 ∷ []) "dark\n"
    -- the refusals
    ∷ says (10080 ∷ sharing) "R 28\n"
    ∷ says (0 ∷ entry_of 100 10 5) "R 28\n"
    ∷ says (0 ∷ filled 65) "R 28\n"
    ∷ says (50 ∷ sharing) "R 29\n"
    -- 65,535 is a plan's number, and 65,536 is none, also of entry 65 and where the minute is outside the week
    ∷ says (5 ∷ entry_of 0 10 65535) "plan 65535\n"
    ∷ says (5 ∷ entry_of 0 10 65536) "? a plan's number is above 65,535\n"
    ∷ says (0 ∷ filled 64 ++ entry_of 640 650 65536) "? a plan's number is above 65,535\n"
    ∷ says (10080 ∷ entry_of 0 10 65536) "? a plan's number is above 65,535\n"
    -- no minute, two numbers of an entry, and one, whatever the others are
    ∷ says [] "? the minute is missing\n"
    ∷ says (9 ∷ 0 ∷ 10 ∷ []) "? each entry has a start, an end and a plan: the numbers after the minute are no multiple of three\n"
    ∷ says (10080 ∷ entry_of 0 10 65536 ++ (30 ∷ [])) "? each entry has a start, an end and a plan: the numbers after the minute are no multiple of three\n"
    ∷ []
