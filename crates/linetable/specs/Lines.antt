-- Lines in two parts of four bytes each. Assumes nothing.
use Rattle.std.specs.Prelude.{ℕ, ◌+◌, ◌-◌, ◌/◌, ◌%◌, ◌≤◌, ◌<◌, ◌≡◌, List, ◌∷◌, [], ◌++◌, cond, length, get_or, take, drop, ltb}
use Rattle.std.proofs.Math.Option.{some, none}
use Rattle.model.specs.Listing.{decimal, line, tick_line}
use Rattle.linetable.specs.declared.Line.{Line}

-- the four bytes of a number below 2 to the power 32, low byte first
unfoldable pub four : ℕ → List ℕ
four x = x % 256 ∷ x / 256 % 256 ∷ x / 65536 % 256 ∷ x / 16777216 ∷ []

-- the text of a line: its first four bytes, and those of its last four that lie past them, as many as `past` modulo four
unfoldable pub text_of : Line → List ℕ
text_of l = four l.first ++ drop (4 - l.past % 4) (four l.last)

-- a text of four to seven bytes is kept in a line
pub record Kept (text : List ℕ) (l : Line) : Type 0 where
  pub first_four : four l.first ≡ take 4 text
  pub last_four : four l.last ≡ drop l.past text
  pub long : length text ≡ 4 + l.past
  pub short : l.past ≤ 3

-- the model's line at place k: `G` and position k, `T` and flow k - 256, or `T -`
unfoldable pub line_at : ℕ → List ℕ
line_at k = cond (ltb k 256) (line "G" (decimal k)) (cond (ltb k 272) (tick_line (some (k - 256))) (tick_line none))

-- what stands where there is no line
abbrev pub no_line : Line
no_line = record { first = 0; last = 0; past = 0 }

-- each line stands at its place
pub record AllLines (all : List Line) : Type 0 where
  pub long : length all ≡ 273
  pub kept : (k : ℕ) → k < 273 → Kept (line_at k) (get_or all k no_line)
