-- Edge cases of a programme, one table. RULES 19.1 to 19.3. Assumes nothing.
--
-- What each comes to is worked out from the rules.
use Rattle.std.specs.Prelude.{ℕ, ◌+◌, ◌*◌, ◌≡◌, List, ◌∷◌, [], map, ◌++◌}
use Rattle.model.specs.Tables.{table}
use Rattle.model.specs.Calls.{Answer, accepted, refused}
use Rattle.week.specs.Week.{Entry, AtMinute, plan, dark, plan_at}

pub record Case : Type 0 where
  pub entries : List Entry
  pub minute : ℕ
  pub expected : Answer AtMinute

-- Every case has the expected answer.
abbrev pub Hold : List Case → Type 0
Hold cases = map (λ c. plan_at c.entries c.minute) cases ≡ map (λ c. c.expected) cases

-- ---- what is tried

abbrev entry_of : (start end number : ℕ) → Entry
entry_of start end number = record { start = start; end = end; plan = number }

abbrev runs_plan : List Entry → (minute number : ℕ) → Case
runs_plan entries minute number = record { entries = entries; minute = minute; expected = accepted (plan number) }

abbrev is_dark : List Entry → (minute : ℕ) → Case
is_dark entries minute = record { entries = entries; minute = minute; expected = accepted dark }

abbrev refuses : (number : ℕ) → List Entry → (minute : ℕ) → Case
refuses number entries minute = record { entries = entries; minute = minute; expected = refused number }

-- one entry, of plan 7
abbrev alone : (start end : ℕ) → List Entry
alone start end = entry_of start end 7 ∷ []

-- entries that touch
abbrev touching : List Entry
touching = entry_of 0 10 5 ∷ entry_of 10 20 6 ∷ []

-- entries that share minutes 5 to 9
abbrev sharing : List Entry
sharing = entry_of 0 10 1 ∷ entry_of 5 20 2 ∷ []

-- so many entries of ten minutes, each of its own plan, that touch
abbrev filled : ℕ → List Entry
filled n = table n (λ i. entry_of (10 * i) (10 * i + 10) i)

-- in another order than that of time, with a gap from 300 on
abbrev mixed : List Entry
mixed = entry_of 200 300 1 ∷ entry_of 0 100 2 ∷ entry_of 100 200 3 ∷ []

unfoldable pub edges : List Case
edges =
    -- a showing runs at the minute before its end, and no more at its end
    runs_plan touching 9 5
    ∷ runs_plan touching 10 6
    ∷ runs_plan touching 19 6
    ∷ is_dark touching 20
    -- 28 for the minute before 29 for the entries; 29 though it is dark at that minute
    ∷ refuses 28 sharing 10080
    ∷ refuses 29 sharing 50
    ∷ refuses 29 sharing 0
    -- the last minute of the week, and one past it
    ∷ runs_plan (alone 10079 10080) 10079 7
    ∷ is_dark (alone 10079 10080) 10078
    ∷ refuses 28 (alone 10079 10081) 0
    ∷ refuses 28 (alone 10080 10081) 0
    ∷ refuses 28 (alone 10081 10090) 0
    ∷ runs_plan (alone 0 10080) 0 7
    ∷ runs_plan (alone 0 10080) 10079 7
    ∷ refuses 28 (alone 0 10080) 10080
    -- no minute long, and over the week's end
    ∷ refuses 28 (alone 10 10) 10
    ∷ refuses 28 (alone 10000 100) 10
    ∷ refuses 28 (alone 10080 10080) 0
    -- equal entries, though of one plan
    ∷ refuses 29 (entry_of 0 10 5 ∷ entry_of 0 10 5 ∷ []) 50
    -- 0 is a plan's number, and so is 65,535
    ∷ runs_plan (entry_of 0 10 0 ∷ []) 5 0
    ∷ runs_plan (entry_of 0 10 65535 ∷ []) 5 65535
    -- no entry
    ∷ is_dark [] 0
    ∷ refuses 28 [] 10080
    -- 28 for the last entry before 29 for the first two
    ∷ refuses 28 (sharing ++ (entry_of 30 30 3 ∷ [])) 50
    -- 64 entries, and 65, also where two of these share a minute
    ∷ runs_plan (filled 64) 639 63
    ∷ refuses 28 (filled 65) 0
    ∷ refuses 28 (entry_of 5 6 0 ∷ filled 64) 0
    -- any order
    ∷ runs_plan mixed 0 2
    ∷ runs_plan mixed 150 3
    ∷ runs_plan mixed 299 1
    ∷ is_dark mixed 300
    -- one within another, one minute shared, and entries that share one though no neighbours in the list do
    ∷ refuses 29 (entry_of 0 100 1 ∷ entry_of 40 50 2 ∷ []) 10
    ∷ refuses 29 (entry_of 40 50 2 ∷ entry_of 0 100 1 ∷ []) 45
    ∷ refuses 29 (entry_of 0 11 1 ∷ entry_of 10 20 2 ∷ []) 5
    ∷ refuses 29 (entry_of 0 100 1 ∷ entry_of 200 300 2 ∷ entry_of 50 60 3 ∷ []) 250
    ∷ []
