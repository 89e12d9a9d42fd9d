-- Programmes and answers of the code, read as the definitions'; a name with `Code` is the code's. Assumes nothing.
use Rattle.std.specs.Prelude.{ℕ, ◌<◌, List, get_or, Option, Some, None, option_map, find, Result, Ok, Err}
use Rattle.model.specs.Tables.{table}
use Rattle.model.specs.Calls.{Answer, accepted, refused}
use Rattle.week.specs.declared.Entry.{Entry as CodeEntry}
use Rattle.week.specs.declared.Programme.{Programme}
use Rattle.week.specs.declared.Refusal.{Refusal}
use Rattle.week.specs.declared.Refusal.TheVariants.{Limits, Shared}
use Rattle.week.specs.Week.{Entry, runs, KeepsLimits, AtMinute, plan, dark}

abbrev pub empty_entry : CodeEntry
empty_entry = record { start = 0; end = 0; plan = 0 }

abbrev pub entry_for : CodeEntry → Entry
entry_for s = record { start = s.start; end = s.end; plan = s.plan }

-- entry i, as it is stored
abbrev pub stored : List CodeEntry → ℕ → Entry
stored entries i = entry_for (get_or entries i empty_entry)

-- the entries of a programme are those of its first `count` places: what stands past them has no effect
abbrev pub entries_of : Programme → List Entry
entries_of p = table p.count (stored p.entries)

-- RULES 19.2: the number of a refusal
abbrev pub number : Refusal → ℕ
number Limits = 28
number Shared = 29

-- and 0 where there is none
abbrev pub refusal_number : Result Unit Refusal → ℕ
refusal_number (Ok passed) = 0
refusal_number (Err e) = number e

-- what runs: a plan by its number, or nothing
abbrev pub at_minute : Option ℕ → AtMinute
at_minute (Some n) = plan n
at_minute None = dark

-- the plan of the first entry that runs at a minute
abbrev pub plan_found : List CodeEntry → ℕ → Option ℕ
plan_found entries minute = option_map (λ (e : CodeEntry). e.plan) (find (λ e. runs (entry_for e) minute) entries)

-- the answer: what runs, or a refusal by its number
abbrev pub answer_of : Result (Option ℕ) Refusal → Answer AtMinute
answer_of (Ok found) = accepted (at_minute found)
answer_of (Err e) = refused (number e)

-- the first n entries keep their limits
pub record AllKeepLimits (entries : List CodeEntry) (n : ℕ) : Type 0 where
  pub each : (i : ℕ) → i < n → KeepsLimits (stored entries i)
