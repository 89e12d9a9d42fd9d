-- The word `week-faults`: the limits that a week's entries break, which numbers list. Assumes nothing.
use Rattle.std.specs.Prelude.{ℕ, ◌%◌, ◌<◌, ◌≡◌, List, ◌∷◌, ◌++◌, not, cond, length, eqb}
use Rattle.model.specs.Listing.{text, decimal, refusal_line}
use Rattle.replies.specs.Lines.{cannot}
use Rattle.week.specs.Week.{Entry, week}
use Rattle.programmewords.specs.Programmes.{programme_asked, wide_plan, answer_to_programme}
use Rattle.faults.specs.Told.{faults_line}
use Rattle.weekwords.specs.WeekFaults.{faults_of}

-- the entries are those that `programme` reads after a minute
abbrev pub week_asked : (numbers : List ℕ) → List Entry
week_asked numbers = programme_asked (0 ∷ numbers)

-- RULES 20.6: the line for numbers and faults: a reason why the numbers are no question, or else the faults' line
abbrev pub line_on : (numbers faults : List ℕ) → List ℕ
line_on numbers faults =
    cond (not (eqb (length numbers % 3) 0)) (cannot "each entry has a start, an end and a plan: the numbers are no multiple of three")
    (cond (wide_plan (0 ∷ numbers)) (cannot "a plan's number is above 65,535")
    (faults_line faults))

-- RULES 20.4: the faults of the entries
unfoldable pub answer_to_week_faults : (numbers : List ℕ) → List ℕ
answer_to_week_faults numbers = line_on numbers (faults_of (week_asked numbers))

-- The answer begins with the number of the refusal that `programme` is answered with, whichever minute of the week it asks about.
pub record BeginsWith (numbers : List ℕ) (refusal : ℕ) : Type 0 where
  pub refused : (minute : ℕ) → minute < week → answer_to_programme (minute ∷ numbers) ≡ refusal_line refusal
  pub rest : List ℕ
  pub told : answer_to_week_faults numbers ≡ decimal refusal ++ text " " ++ rest
