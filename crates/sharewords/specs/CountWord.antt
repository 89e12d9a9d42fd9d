-- The word `count`: how many share lists fit, and how many don't. Assumes nothing.
use Rattle.std.specs.Prelude.{ℕ, List, ◌++◌, not, cond, length, get_or, eqb}
use Rattle.model.specs.Listing.{text, decimal, refusal_line}
use Rattle.model.specs.Calls.{Answer, accepted, refused}
use Rattle.shares.specs.Counts.{Counts, counted}
use Rattle.replies.specs.Lines.{cannot, spaced}

-- two numbers
abbrev pub two_line : (first second : ℕ) → List ℕ
two_line first second = decimal first ++ spaced second ++ text "\n"

-- RULES 20.4: the two numbers, those accepted and those refused, or `R` and the refusal
abbrev pub count_line : Answer Counts → List ℕ
count_line (accepted counts) = two_line counts.accepts counts.refuses
count_line (refused number) = refusal_line number

-- RULES 20.4 and 20.6: `count F n`, and nothing else
unfoldable pub answer_to_count : (numbers : List ℕ) → List ℕ
answer_to_count numbers =
    cond (not (eqb (length numbers) 2)) (cannot "the numbers are F and n")
    (count_line (counted (get_or numbers 0 0) (get_or numbers 1 0)))
