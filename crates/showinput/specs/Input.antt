-- The input of `domeshow`, and what is written for it. RULES 25.6. Assumes nothing.
use Rattle.std.specs.Prelude.{ℕ, ◌-◌, List, cond, length, get_or, take, ltb, eqb, Result, Ok, Err}
use Prim.Native.Char.{code}
use Rattle.tokens.specs.declared.Fault.{Fault}
use Rattle.tokens.specs.Pieces.{fields_of}
use Rattle.tokens.specs.Decimal.{numbers_in, found_in}
use Rattle.replies.specs.Lines.{cannot, fault_line}
use Rattle.showwords.specs.Answers.{answer_to_show}

-- the last byte, 0 where there is none
abbrev pub last_of : (input : List ℕ) → ℕ
last_of input = get_or input (length input - 1) 0

-- RULES 25.6: one question, "and a newline after them or none"
unfoldable pub question_of : (input : List ℕ) → List ℕ
question_of input = cond (eqb (last_of input) (code "\n")) (take (length input - 1) input) input

-- RULES 25.6: reasons on numbers come before what the word asks for
abbrev pub numbers_line : Result ℕ Fault → (numbers : List ℕ) → List ℕ
numbers_line (Ok n) numbers = answer_to_show numbers
numbers_line (Err fault) numbers = fault_line fault

abbrev pub question_line : (question : List ℕ) → List ℕ
question_line question = numbers_line (found_in (fields_of question)) (numbers_in (fields_of question))

-- RULES 25.6: the answer to a whole input
unfoldable pub answer_to : (input : List ℕ) → List ℕ
answer_to input =
    cond (ltb 4000 (length (question_of input))) (cannot "the question has more than 4,000 bytes") (question_line (question_of input))

-- of an input that is too long so many bytes are enough
abbrev pub kept : (input : List ℕ) → List ℕ
kept input = take 4002 input
