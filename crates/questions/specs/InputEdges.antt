-- Edges of whole inputs, one table: what is read, and what is written for it. RULES 20.1, 20.2, 20.6. Assumes nothing.
use Rattle.std.specs.Prelude.{ℕ, ◌≡◌, List, ◌∷◌, [], ◌++◌, map, replicate}
use Prim.Native.String.{String}
use Rattle.model.specs.Listing.{text}
use Rattle.questions.specs.Input.{answers_to}

pub record Case : Type 0 where
  pub input : List ℕ
  pub output : String

abbrev writes : (input output : String) → Case
writes input output = record { input = text input; output = output }

abbrev unknown : String
unknown = "? the first word is none of plan, room, read, mesh, mesh-over, count, extras, programme, delay, faults and week-faults\n"

-- Every output comes out as expected.
abbrev pub Pass : List Case → Type 0
Pass cases = map (λ e. answers_to e.input) cases ≡ map (λ e. text e.output) cases

unfoldable pub input_edges : List Case
input_edges =
    -- no byte is no line, an empty line is one, and the last needs no newline
    writes "" ""
    ∷ writes "\n" unknown
    ∷ writes "read" "R 1\n"
    ∷ writes "read\n" "R 1\n"
    ∷ writes "plan 4 2 4\nread" "R 2\nR 1\n"
    ∷ writes "read\nplan 4 2 4\n" "R 1\nR 2\n"
    -- each word has its own answer
    ∷ writes "plan 4 2 13 3 11 5 9\n" "100001000c00040002000d00030b0509\n"
    ∷ writes "room 15 4 2 13 3 11 5 9\n" "R 19\n"
    ∷ writes "read 100001000c00040002000d00030b0509\n" "plan 4 2 13 3 11 5 9\n"
    ∷ writes "mesh 64\nmesh-over 64\n" "ok\nok\n"
    ∷ writes "mesh 65\n" "R 3\n"
    ∷ writes "count 17 1\n" "R 26\n"
    ∷ writes "extras 1\n" "? the slots or the budget is missing\n"
    ∷ writes "programme\n" "? the minute is missing\n"
    ∷ writes "delay 4 2 2 3\n" "19 4 6\n"
    ∷ writes "faults 4 2 8 5 1 1 9\n" "4 0 0 6 5 4\n"
    ∷ writes "week-faults 10 10 7\n" "28 0 0\n"
    -- small letters alone, no more and no fewer of them, and nothing in front
    ∷ writes "PLAN 4 2 4\n" unknown
    ∷ writes "Read\n" unknown
    ∷ writes "pla 4\n" unknown
    ∷ writes "plan4 2\n" unknown
    ∷ writes "plant 4\n" unknown
    ∷ writes "mesh-ove 64\n" unknown
    ∷ writes " plan 4 2 4\n" unknown
    ∷ writes "read\t\n" unknown
    ∷ writes "read\r\n" unknown
    -- what is no number comes first
    ∷ writes "count 4 x\n" "? a number has a byte that is no digit\n"
    ∷ writes "count  4\n" "? a number is missing: words and numbers are set apart by single spaces\n"
    -- 4,000 bytes are a question, and 4,001 are none, whatever stands in them
    ∷ record { input = text "read" ++ replicate 3996 120; output = unknown }
    ∷ record { input = text "read " ++ replicate 3996 48; output = "? the line has more than 4,000 bytes\n" }
    ∷ []
