-- The faults of a week: each limit of tests 28 and 29 by itself. RULES 19.4. Assumes nothing.
use Rattle.std.specs.Prelude.{ℕ, min, List, ◌++◌, not, length}
use Rattle.model.specs.Tables.{first_from}
use Rattle.week.specs.Week.{Entry, entry, starts_first, in_week, many_entries, share_minute}
use Rattle.faults.specs.Told.{told, first_told, each_below}

-- RULES 19.4: of more than 64 entries the first 64 are looked at
abbrev pub entries_seen : List Entry → ℕ
entries_seen entries = min (length entries) 64

-- RULES 19.4: the start and the end of entry i
abbrev pub entry_faults : (e : Entry) → (i : ℕ) → List ℕ
entry_faults e i = told (not (starts_first e)) 28 i 0 ++ told (not (in_week e.end)) 28 i 1

-- RULES 19.4: of so many entries, each by itself
abbrev pub entries_faults : List Entry → (n : ℕ) → List ℕ
entries_faults entries n = each_below n (λ i. entry_faults (entry entries i) i)

-- RULES 19.4: how many there are
abbrev pub count_faults : (count : ℕ) → List ℕ
count_faults count = told (many_entries count) 28 count 2

-- RULES 19.4: the first entry before entry j that shares a minute with it
abbrev pub shared_faults : List Entry → (j : ℕ) → List ℕ
shared_faults entries j = first_told 29 (first_from j 0 (λ i. share_minute (entry entries i) (entry entries j))) j

-- RULES 19.4: all faults, by the tests' numbers and then by place
unfoldable pub faults_of : List Entry → List ℕ
faults_of entries =
    entries_faults entries (entries_seen entries) ++ count_faults (length entries) ++ each_below (entries_seen entries) (shared_faults entries)
