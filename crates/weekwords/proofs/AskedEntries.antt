-- Entries of the week that is asked about. Assumes nothing.
use Prim.Native.Nat.{ℕ, ◌+◌, ◌*◌, ◌/◌, ◌≤◌, ◌<◌, min}
use mathlib.Core.Path.{◌≡◌, refl, ap, ◌∙◌}
use mathlib.Core.List.{List, ◌∷◌, ◌++◌}
use mathlib.Core.Bool.{not}
use native.Mathlib.Decide.{dec_lt}
use native.Mathlib.Numerals.{one-add}
use native.Mathlib.Omega.{arith}
use lib.ListN.{length, get_or}
use lib.Dec.{leb, ltb, leb-zero}
use borrow.Author.Tests.{lt-ltb, le-ltb, lt-leb, le-leb}
use Rattle.model.specs.Tables.{any, table}
use Rattle.model.proofs.Tables.{length-table, get_d-table, table_same}
use Rattle.model.proofs.Tests.{any_same}
use Rattle.week.specs.Week.{Entry, week, entry, no_entry, starts_first, in_week}
use Rattle.programmewords.specs.Programmes.{entries_asked, entry_asked, programme_asked, wide_plan}
use Rattle.faults.specs.Told.{each_below}
use Rattle.weekwords.specs.WeekFaults.{entries_seen, entries_faults, count_faults, shared_faults, faults_of}
use Rattle.weekwords.specs.WeekWord.{week_asked}

-- entry i by its three numbers
abbrev pub listed : (numbers : List ℕ) → (i : ℕ) → Entry
listed numbers i = record { start = get_or numbers (3 * i) 0; end = get_or numbers (3 * i + 1) 0; plan = get_or numbers (3 * i + 2) 0 }

module _ (minute : ℕ) (numbers : List ℕ) where
  -- a number after the minute
  after-minute : (j k : ℕ) → j ≡ 1 + k → get_or (minute ∷ numbers) j 0 ≡ get_or numbers k 0
  after-minute j k e = ap (λ n. get_or (minute ∷ numbers) n 0) (e ∙ one-add k)

  listed-is : (i : ℕ) → entry_asked (minute ∷ numbers) i ≡ listed numbers i
  listed-is i = λ t. record {
    start = after-minute (1 + 3 * i) (3 * i) refl t;
    end = after-minute (1 + 3 * i + 1) (3 * i + 1) (omega arith) t;
    plan = after-minute (1 + 3 * i + 2) (3 * i + 2) (omega arith) t;
  }

  many-asked : entries_asked (minute ∷ numbers) ≡ length numbers / 3
  many-asked = omega arith

  -- the entries after any minute
  pub week-is : programme_asked (minute ∷ numbers) ≡ table (length numbers / 3) (listed numbers)
  week-is = ap (λ n. table n (entry_asked (minute ∷ numbers))) many-asked ∙ table_same (length numbers / 3) _ _ (λ i l. listed-is i)

  pub wide_is : wide_plan (minute ∷ numbers) ≡ any (length numbers / 3) (λ i. ltb 65535 (get_or numbers (3 * i + 2) 0))
  wide_is =
      ap (λ n. any n (λ i. ltb 65535 (entry_asked (minute ∷ numbers) i).plan)) many-asked
      ∙ any_same (length numbers / 3) _ _ (λ i l. ap (λ e. ltb 65535 e.plan) (listed-is i))

module _ (numbers : List ℕ) where
  pub count_is : length (week_asked numbers) ≡ length numbers / 3
  count_is = ap length (week-is 0 numbers) ∙ length-table (length numbers / 3) (listed numbers)

  pub entry_is : (i : ℕ) → 3 * i + 3 ≤ length numbers → entry (week_asked numbers) i ≡ listed numbers i
  entry_is i h =
      ap (λ es. entry es i) (week-is 0 numbers) ∙ get_d-table (length numbers / 3) (listed numbers) i no_entry (omega arith)

-- ---- the limits, as the code tests them

pub not_first : (e : Entry) → leb e.end e.start ≡ not (starts_first e)
not_first e = go (dec_lt e.start e.end)
  where
    go : Dec (e.start < e.end) → leb e.end e.start ≡ not (starts_first e)
    go (yes h) = rw (lt-leb e.end e.start h, lt-ltb e.start e.end h)
    go (no h) = rw (le-leb e.end e.start (omega arith), le-ltb e.start e.end (omega arith))

pub past-week : (minute : ℕ) → ltb week minute ≡ not (in_week minute)
past-week minute = go (dec_lt week minute)
  where
    go : Dec (week < minute) → ltb week minute ≡ not (in_week minute)
    go (yes h) = rw (lt-ltb week minute h, leb-zero minute, lt-leb minute week h)
    go (no h) = rw (le-ltb week minute (omega arith), leb-zero minute, le-leb minute week (omega arith))

-- ---- all that is told

pub all_found : (numbers : List ℕ) (count first : ℕ) → length numbers ≡ 3 * count → first ≡ min count 64
    → entries_faults (week_asked numbers) first ++ count_faults count ++ each_below first (shared_faults (week_asked numbers)) ≡ faults_of (week_asked numbers)
unfolding faults_of
all_found numbers count first long seen =
    let many : count ≡ length (week_asked numbers) = omega (arith, long, count_is numbers) in
    let all : first ≡ entries_seen (week_asked numbers) = seen ∙ ap (λ n. min n 64) many in
    λ t. entries_faults (week_asked numbers) (all t) ++ count_faults (many t) ++ each_below (all t) (shared_faults (week_asked numbers))
