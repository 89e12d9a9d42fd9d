-- Edges of whole inputs, one table: what is read, and what is written for it. RULES 25.6. Assumes nothing.
use Rattle.std.specs.Prelude.{ℕ, ◌≡◌, List, ◌∷◌, [], ◌++◌, map, replicate}
use Prim.Native.String.{String}
use Rattle.model.specs.Listing.{text}
use Rattle.showinput.specs.Input.{answer_to}

pub record Case : Type 0 where
  pub input : List ℕ
  pub output : String

abbrev writes : (input output : String) → Case
writes input output = record { input = text input; output = output }

abbrev missing : String
missing = "? F, W or N is missing\n"

abbrev one_link : String
one_link = "ok\nlink 0 1 100001000c0004000200080001030001\n"

-- Every output comes out as expected.
abbrev pub Pass : List Case → Type 0
Pass cases = map (λ e. answer_to e.input) cases ≡ map (λ e. text e.output) cases

unfoldable pub input_edges : List Case
input_edges =
    -- no byte, a newline alone, and a word without numbers
    writes "" missing
    ∷ writes "\n" missing
    ∷ writes "show 4 2\n" missing
    -- a newline at the end is no part of the question, and a second one is
    ∷ writes "show 4 2 8 0 1 1 2 3" one_link
    ∷ writes "show 4 2 8 0 1 1 2 3\n" one_link
    ∷ writes "show 4 2 8 0 1 1 2 3\n\n" "? a number has a byte that is no digit\n"
    -- what stands before the first blank is not looked at
    ∷ writes "x 4 2 8" "ok\n"
    -- what is no number comes first
    ∷ writes "show  4" "? a number is missing: words and numbers are set apart by single spaces\n"
    ∷ writes "show 1234567890" "? a number has more than nine digits\n"
    -- 4,000 bytes are a question, with a newline too, and 4,001 are none
    ∷ record { input = replicate 4000 120; output = missing }
    ∷ record { input = replicate 4000 120 ++ text "\n"; output = missing }
    ∷ record { input = replicate 4001 120; output = "? the question has more than 4,000 bytes\n" }
    ∷ record { input = replicate 4000 120 ++ text "\nx"; output = "? the question has more than 4,000 bytes\n" }
    ∷ []
