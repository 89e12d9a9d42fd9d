-- What an answer says of the entries, and entries that pass. RULES 19.2 and 19.3. Assumes nothing.
use Rattle.std.specs.Prelude.{ℕ, suc, ◌≤◌, ◌<◌, ◌≡◌, List, true, false, length}
use Rattle.week.specs.Week.{Entry, entry, runs, KeepsLimits}

-- the entry at a place runs at a minute
pub record RunsAt (entries : List Entry) (minute i : ℕ) : Type 0 where
  pub below : i < length entries
  pub runs_then : runs (entry entries i) minute ≡ true

-- an entry of this plan runs
pub record PlanRuns (entries : List Entry) (minute number : ℕ) : Type 0 where
  pub place : ℕ
  pub there : RunsAt entries minute place
  pub of_plan : (entry entries place).plan ≡ number

-- no entry runs
abbrev pub NoneRuns : List Entry → ℕ → Type 0
NoneRuns entries minute = (i : ℕ) → i < length entries → runs (entry entries i) minute ≡ false

-- ---- entries that follow one another: each starts at the minute at which the one at the place before it ends, or at a later one

pub record InOrder (entries : List Entry) : Type 0 where
  pub few : length entries ≤ 64
  pub keeps-limits : (i : ℕ) → i < length entries → KeepsLimits (entry entries i)
  pub follows : (i : ℕ) → suc i < length entries → (entry entries i).end ≤ (entry entries (suc i)).start
