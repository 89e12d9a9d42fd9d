-- The word `programme`: what runs at a minute of the week, by the entries that numbers list. Assumes nothing.
use Rattle.std.specs.Prelude.{ℕ, ◌+◌, ◌-◌, ◌*◌, ◌/◌, ◌%◌, List, ◌++◌, Bool, not, cond, length, get_or, ltb, eqb}
use Rattle.model.specs.Tables.{table, any}
use Rattle.model.specs.Calls.{Answer, accepted, refused}
use Rattle.model.specs.Listing.{text, refusal_line}
use Rattle.replies.specs.Lines.{cannot, spaced}
use Rattle.week.specs.Week.{Entry, AtMinute, plan, dark, plan_at}

-- the minute that is asked about comes first
abbrev pub minute_asked : List ℕ → ℕ
minute_asked numbers = get_or numbers 0 0

-- after it come a start, an end and a plan for each entry
abbrev pub entries_asked : List ℕ → ℕ
entries_asked numbers = (length numbers - 1) / 3

abbrev pub entry_asked : List ℕ → ℕ → Entry
entry_asked numbers i = record { start = get_or numbers (1 + 3 * i) 0; end = get_or numbers (1 + 3 * i + 1) 0; plan = get_or numbers (1 + 3 * i + 2) 0 }

abbrev pub programme_asked : List ℕ → List Entry
programme_asked numbers = table (entries_asked numbers) (entry_asked numbers)

-- a number that has more than 16 bits is no plan's
abbrev pub wide_plan : List ℕ → Bool
wide_plan numbers = any (entries_asked numbers) (λ i. ltb 65535 (entry_asked numbers i).plan)

-- RULES 20.4: `plan` and the number, `dark`, or `R` and the refusal
abbrev pub programme_line : Answer AtMinute → List ℕ
programme_line (accepted (plan number)) = text "plan" ++ spaced number ++ text "\n"
programme_line (accepted dark) = text "dark\n"
programme_line (refused number) = refusal_line number

-- RULES 20.6: the line for numbers and an answer: a reason why the numbers are no question, or else the answer's line
abbrev pub line_on : (numbers : List ℕ) → Answer AtMinute → List ℕ
line_on numbers answer =
    cond (eqb (length numbers) 0) (cannot "the minute is missing")
    (cond (not (eqb ((length numbers - 1) % 3) 0)) (cannot "each entry has a start, an end and a plan: the numbers after the minute are no multiple of three")
    (cond (wide_plan numbers) (cannot "a plan's number is above 65,535")
    (programme_line answer)))

unfoldable pub answer_to_programme : (numbers : List ℕ) → List ℕ
answer_to_programme numbers = line_on numbers (plan_at (programme_asked numbers) (minute_asked numbers))
