-- The word `faults`: the limits that a plan breaks, which numbers ask for. Assumes nothing.
use Rattle.std.specs.Prelude.{ℕ, ◌-◌, ◌%◌, ◌≡◌, List, ◌++◌, Bool, not, cond, length, get_or, ltb, eqb}
use Rattle.model.specs.Tables.{any}
use Rattle.model.specs.Listing.{text, decimal, refusal_line}
use Rattle.replies.specs.Lines.{cannot}
use Rattle.planwords.specs.Plans.{plan_asked, answer_to_plan}
use Rattle.faults.specs.Told.{faults_line}
use Rattle.faultwords.specs.PlanFaults.{faults_of}

-- RULES 20.3: a number that no line has
abbrev pub some_long : (numbers : List ℕ) → Bool
some_long numbers = any (length numbers) (λ i. ltb 999999999 (get_or numbers i 0))

-- RULES 20.4: the faults of the plan that `plan` would write. RULES 20.6: as for `plan`
unfoldable pub answer_to_faults : (numbers : List ℕ) → List ℕ
answer_to_faults numbers =
    cond (ltb (length numbers) 3) (cannot "F, W or N is missing")
    (cond (not (eqb ((length numbers - 3) % 4) 0)) (cannot "each flow has a share, cells, a source and a destination: the numbers after N are no multiple of four")
    (cond (some_long numbers) (cannot "a number has more than nine digits")
    (faults_line (faults_of (plan_asked numbers)))))

-- The answer begins with the number of the refusal that `plan` is answered with.
pub record BeginsWith (numbers : List ℕ) (refusal : ℕ) : Type 0 where
  pub refused : answer_to_plan numbers ≡ refusal_line refusal
  pub rest : List ℕ
  pub told : answer_to_faults numbers ≡ decimal refusal ++ text " " ++ rest
