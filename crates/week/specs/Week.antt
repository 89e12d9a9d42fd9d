-- The week's programme. RULES 19.1 to 19.3. Assumes nothing.
use Rattle.std.specs.Prelude.{ℕ, zero, suc, ◌≤◌, ◌<◌, ◌≡◌, List, ◌∷◌, [], Bool, false, not, ◌&&◌, ◌||◌, cond, length, get_or, leb, ltb}
use Rattle.model.specs.Tables.{any, within}
use Rattle.model.specs.Refusals.{first_of, ◌when◌}
use Rattle.model.specs.Calls.{Answer, accepted, refused}

-- ---- the programme

-- RULES 19.1: an entry, a showing's start and end in minutes of the week, and the number of its plan
pub record Entry : Type 0 where
  pub start : ℕ
  pub end : ℕ
  pub plan : ℕ

-- the minutes of a week are 0 to 10,079; a showing may end as the week does, at 10,080
abbrev pub week : ℕ
week = 10080

abbrev pub no_entry : Entry
no_entry = record { start = 0; end = 0; plan = 0 }

abbrev pub entry : List Entry → ℕ → Entry
entry entries i = get_or entries i no_entry

-- RULES 19.1: a showing runs at its start and at each minute after it, and no more at its end
abbrev pub runs : Entry → ℕ → Bool
runs e minute = leb e.start minute && ltb minute e.end

-- ---- the limits, one by one. RULES 19.2

abbrev pub starts_first : Entry → Bool
starts_first e = ltb e.start e.end

abbrev pub in_week : (minute : ℕ) → Bool
in_week minute = within 0 week minute

abbrev pub many_entries : (count : ℕ) → Bool
many_entries count = ltb 64 count

-- ---- the refusals

-- the start is before the end, and both are 0 to 10,080
unfoldable pub keeps_limits : Entry → Bool
keeps_limits e = starts_first e && in_week e.start && in_week e.end

-- some entry doesn't start before it ends, or lies outside the week
abbrev pub some_breaks_limits : List Entry → Bool
some_breaks_limits entries = any (length entries) (λ i. not (keeps_limits (entry entries i)))

-- RULES 19.2: two entries share a minute: at some minute of the week both run
unfoldable pub share_minute : Entry → Entry → Bool
share_minute a b = any week (λ minute. runs a minute && runs b minute)

-- some two entries share a minute
abbrev pub some_shared : List Entry → Bool
some_shared entries = any (length entries) (λ i. any i (λ j. share_minute (entry entries j) (entry entries i)))

-- RULES 19.2: the refusal of a programme and a minute, and 0 where there is none: every reason for 28 is tested before 29
unfoldable pub refusal : List Entry → ℕ → ℕ
refusal entries minute = first_of (
    28 when (some_breaks_limits entries || many_entries (length entries) || not (ltb minute week))
    ∷ 29 when some_shared entries
    ∷ [])

-- ---- the answer

-- what runs at a minute: a plan, or nothing, which is dark and no plan's number
pub data AtMinute : Type 0 where
  plan : (number : ℕ) → AtMinute
  dark : AtMinute

-- the entries that run at a minute
unfoldable pub running : List Entry → ℕ → List Entry
running [] minute = []
running (e ∷ rest) minute = cond (runs e minute) (e ∷ running rest minute) (running rest minute)

-- RULES 19.3: the plan of the entry that runs, which is the only one (`one_at_most`), and dark where none does
abbrev pub plan_or_dark : List Entry → AtMinute
plan_or_dark [] = dark
plan_or_dark (e ∷ others) = plan e.plan

abbrev pub answered : ℕ → AtMinute → Answer AtMinute
answered zero found = accepted found
answered (suc r) found = refused (suc r)

-- RULES 19.3: the answer for a minute
unfoldable pub plan_at : List Entry → ℕ → Answer AtMinute
plan_at entries minute = answered (refusal entries minute) (plan_or_dark (running entries minute))

-- ---- what is known of a programme that passes, with the minute that was asked for

pub record KeepsLimits (e : Entry) : Type 0 where
  pub before_end : e.start < e.end
  pub to_the_end : e.end ≤ week

pub record Passed (entries : List Entry) (minute : ℕ) : Type 0 where
  pub few : length entries ≤ 64
  pub minute_in : minute < week
  pub keeps-limits : (i : ℕ) → i < length entries → KeepsLimits (entry entries i)
  pub apart : (i j : ℕ) → i < length entries → j < i → share_minute (entry entries j) (entry entries i) ≡ false
