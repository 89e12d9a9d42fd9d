-- The lines of an input, and what is written for them. RULES 20.1. Assumes nothing.
use Rattle.std.specs.Prelude.{ℕ, Bool, cond, eqb}
use Prim.Native.Char.{code}
use mathlib.Core.List.{List, ◌∷◌, [], flat_map}
use Rattle.tokens.specs.Pieces.{before}
use Rattle.questions.specs.Answers.{answer_of}

abbrev pub is_newline : ℕ → Bool
is_newline b = eqb b (code "\n")

-- "A line ends with a newline, which is not part of it"; bytes at the end that no newline follows are a line, if there are any
unfoldable pub lines_of : List ℕ → List (List ℕ)
lines_of [] = []
lines_of (b ∷ rest) = cond (is_newline b) ([] ∷ lines_of rest) (before b (lines_of rest))

-- "answers each with one line", in their order
unfoldable pub answers_to : (input : List ℕ) → List ℕ
answers_to input = flat_map answer_of (lines_of input)
