-- Edges of the word `week-faults`: numbers, and the line that answers them. RULES 19.4, 20.4 and 20.6. Assumes nothing.
--
-- What each comes to is worked out from the rules.
use Rattle.std.specs.Prelude.{ℕ, ◌+◌, ◌*◌, ◌≡◌}
use Prim.Native.String.{String}
use mathlib.Core.List.{List, ◌∷◌, [], ◌++◌, map, flat_map}
use Rattle.model.specs.Tables.{table}
use Rattle.model.specs.Listing.{text}
use Rattle.weekwords.specs.WeekWord.{answer_to_week_faults}

pub record Case : Type 0 where
  pub numbers : List ℕ
  pub line : String

abbrev says : List ℕ → String → Case
says numbers line = record { numbers = numbers; line = line }

-- Every line comes out as expected.
abbrev pub Pass : List Case → Type 0
Pass cases = map (λ e. answer_to_week_faults e.numbers) cases ≡ map (λ e. text e.line) cases

-- ---- what is tried

abbrev entry_of : (start end number : ℕ) → List ℕ
entry_of start end number = start ∷ end ∷ number ∷ []

-- so many entries of ten minutes that touch
abbrev filled : ℕ → List ℕ
filled n = flat_map (λ i. entry_of (10 * i) (10 * i + 10) i) (table n (λ i. i))

unfoldable pub week_word_edges : List Case
week_word_edges =
    -- no entry, and a single one over the whole week
    says [] "ok\n"
    ∷ says (entry_of 0 10080 7) "ok\n"
    -- 28: the start is not below the end; the end is above 10,080; both
    ∷ says (entry_of 10 10 7) "28 0 0\n"
    ∷ says (entry_of 10 11 7) "ok\n"
    ∷ says (entry_of 20 10 7) "28 0 0\n"
    ∷ says (entry_of 10 10081 7) "28 0 1\n"
    ∷ says (entry_of 20000 10081 7) "28 0 0 28 0 1\n"
    ∷ says (entry_of 0 10 1 ++ entry_of 20 20 2) "28 1 0\n"
    -- 28: more than 64 entries, of which the first 64 are looked at
    ∷ says (filled 64) "ok\n"
    ∷ says (filled 64 ++ entry_of 9 9 9) "28 65 2\n"
    -- 29: the first entry that shares a minute, of each later one
    ∷ says (entry_of 0 2 1 ++ entry_of 2 4 2) "ok\n"
    ∷ says (entry_of 0 3 1 ++ entry_of 2 4 2) "29 0 1\n"
    ∷ says (entry_of 2 4 1 ++ entry_of 0 3 2) "29 0 1\n"
    ∷ says (entry_of 0 9 1 ++ entry_of 0 2 2 ++ entry_of 1 2 3) "29 0 1 29 0 2\n"
    ∷ says (entry_of 5 9 1 ++ entry_of 0 2 2 ++ entry_of 1 2 3) "29 1 2\n"
    -- both, an entry past the week's end too; one that runs in no minute shares none
    ∷ says (entry_of 10079 10081 1 ++ entry_of 10079 10080 2) "28 0 1 29 0 1\n"
    ∷ says (entry_of 3 3 1 ++ entry_of 3 4 2) "28 0 0\n"
    ∷ says (entry_of 10080 10081 1 ++ entry_of 10080 10081 2) "28 0 1 28 1 1\n"
    -- plans' numbers, and whole entries
    ∷ says (entry_of 0 10 65535) "ok\n"
    ∷ says (entry_of 10 10 65536) "? a plan's number is above 65,535\n"
    ∷ says (0 ∷ 10 ∷ []) "? each entry has a start, an end and a plan: the numbers are no multiple of three\n"
    ∷ says (entry_of 0 10 65536 ++ (5 ∷ [])) "? each entry has a start, an end and a plan: the numbers are no multiple of three\n"
    ∷ []
