-- Input that comes in pieces: the line that has begun, and what is said for each byte more. Assumes nothing.
use Rattle.std.specs.Prelude.{ℕ, suc, ◌-◌, List, ◌∷◌, [], ◌++◌, cond, length, ltb}
use Rattle.replies.specs.Lines.{room}
use Rattle.questions.specs.Answers.{answer_of}
use Rattle.questions.specs.Input.{is_newline}

-- ---- one byte

-- the line with a byte more: with 4,001 bytes it is too long, and no more are kept
unfoldable pub kept : (line : List ℕ) → ℕ → List ℕ
kept line b = cond (ltb (length line) 4001) (line ++ (b ∷ [])) line

-- the line that has begun after a byte
unfoldable pub line_with : (line : List ℕ) → ℕ → List ℕ
line_with line b = cond (is_newline b) [] (kept line b)

-- what is said for it: the answer to a line that it ends
unfoldable pub said_with : (line : List ℕ) → ℕ → List ℕ
said_with line b = cond (is_newline b) (answer_of line) []

-- ---- a piece of the input

unfoldable pub line_fed : (line piece : List ℕ) → List ℕ
line_fed line [] = line
line_fed line (b ∷ rest) = line_fed (line_with line b) rest

unfoldable pub said_fed : (line piece : List ℕ) → List ℕ
said_fed line [] = []
said_fed line (b ∷ rest) = said_with line b ++ said_fed (line_with line b) rest

-- how many bytes of a piece are taken where so many places are left: as long as the longest answer has room
unfoldable pub taken_from : (line piece : List ℕ) → (left : ℕ) → ℕ
taken_from line [] left = 0
taken_from line (b ∷ rest) left = cond (ltb left room) 0 (suc (taken_from (line_with line b) rest (left - length (said_with line b))))

-- ---- the end of the input

-- a line that has begun is a line if it has a byte
unfoldable pub at_end : (line : List ℕ) → List ℕ
at_end [] = []
at_end (b ∷ rest) = answer_of (b ∷ rest)
