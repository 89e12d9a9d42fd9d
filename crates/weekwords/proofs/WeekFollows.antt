-- A week's faults begin with the number of its refusal, and there are none where it is not refused. Assumes nothing.
use Prim.Native.Nat.{ℕ, ◌≤◌, ◌<◌}
use mathlib.Core.Path.{◌≡◌, refl, sym, ap, ◌∙◌}
use mathlib.Core.List.{List, ◌∷◌, [], ◌++◌, append-nil}
use mathlib.Core.Bool.{Bool, true, false, not, ◌||◌}
use native.Mathlib.Decide.{dec_le, dec_lt}
use native.Mathlib.Omega.{arith}
use lib.ListN.{length}
use lib.Dec.{leb-zero}
use borrow.Author.Tests.{lt-ltb, le-ltb}
use Rattle.model.specs.Tables.{any}
use Rattle.model.specs.Refusals.{Line, ◌when◌, first_of}
use Rattle.model.proofs.Tests.{or-true}
use Rattle.week.specs.Week.{Entry, week, entry, starts_first, in_week, many_entries, keeps_limits}
use Rattle.week.specs.Week.{share_minute, some_breaks_limits, some_shared, refusal}
use Rattle.week.proofs.OneEntry.{ends-first, limits-by-end}
use Rattle.faults.specs.Told.{each_below}
use Rattle.faults.proofs.Tells.{Tells, tells-same, tells-one, tells_both, tells-each, tells_first}
use Rattle.faults.proofs.Tells.{Follows, follows-none, follows-first, follows-more, follows_same}
use Rattle.weekwords.specs.WeekFaults.{entries_seen, entry_faults, entries_faults, count_faults, shared_faults, faults_of}

or_nothing : (b : Bool) → b || false ≡ b
or_nothing true = refl
or_nothing false = refl

-- an entry's limits, as test 28 makes them
entry-test : (e : Entry) → not (starts_first e) || not (in_week e.end) ≡ not (keeps_limits e)
entry-test e = go (dec_lt e.start e.end)
  where
    go : Dec (e.start < e.end) → not (starts_first e) || not (in_week e.end) ≡ not (keeps_limits e)
    go (yes h) = rw (lt-ltb e.start e.end h, leb-zero e.end) (ap not (limits-by-end e h))
    go (no h) = rw (le-ltb e.start e.end (omega arith)) (ap not (ends-first e (omega arith)))

-- the lines that a minute of the week leaves of the refusal
abbrev pub week_tests : List Entry → List Line
week_tests entries = 28 when (some_breaks_limits entries || many_entries (length entries)) ∷ 29 when some_shared entries ∷ []

pub tests-are : (entries : List Entry) (minute : ℕ) → minute < week → refusal entries minute ≡ first_of (week_tests entries)
unfolding refusal
tests-are entries minute h =
    let broken = some_breaks_limits entries || many_entries (length entries) in
    ap (λ t. first_of (28 when (broken || not t) ∷ 29 when some_shared entries ∷ [])) (lt-ltb minute week h)
    ∙ ap (λ t. first_of (28 when t ∷ 29 when some_shared entries ∷ [])) (or_nothing broken)

tells-entry : (e : Entry) (i : ℕ) → Tells 28 (not (keeps_limits e)) (entry_faults e i)
tells-entry e i = tells-same (entry-test e) (tells_both (tells-one (not (starts_first e)) 28 i 0) (tells-one (not (in_week e.end)) 28 i 1))

module _ (entries : List Entry) where
  abbrev n : ℕ
  n = length entries

  abbrev breaks : ℕ → Bool
  breaks i = not (keeps_limits (entry entries i))

  abbrev shared : ℕ → Bool
  shared j = any j (λ i. share_minute (entry entries i) (entry entries j))

  abbrev first-told : List ℕ
  first-told = entries_faults entries (entries_seen entries) ++ count_faults n

  abbrev second-told : List ℕ
  second-told = each_below (entries_seen entries) (shared_faults entries)

  -- the limits of 28, of the entries that are looked at
  tells-28 : Tells 28 (any (entries_seen entries) breaks || many_entries n) first-told
  tells-28 = tells_both (tells-each 28 (entries_seen entries) breaks _ (λ i l. tells-entry (entry entries i) i)) (tells-one (many_entries n) 28 n 2)

  -- up to 64 entries
  all_seen : n ≤ 64 → Follows (week_tests entries) (faults_of entries)
  unfolding faults_of
  all_seen few =
      let seen : entries_seen entries ≡ n = omega arith in
      let first : Tells 28 (any n breaks || many_entries n) first-told = tells-same (ap (λ k. any k breaks || many_entries n) seen) tells-28 in
      let second : Tells 29 (any n shared) second-told =
      tells-same (ap (λ k. any k shared) seen)
      (tells-each 29 (entries_seen entries) shared (shared_faults entries) (λ j l. tells_first 29 j (λ i. share_minute (entry entries i) (entry entries j)))) in
      follows_same (ap (first-told ++◌) (append-nil second-told)) (follows-more first (follows-more second follows-none))

  -- more are refused with 28
  some-unseen : 64 < n → Follows (week_tests entries) (faults_of entries)
  unfolding faults_of
  some-unseen many =
      let over : many_entries n ≡ true = lt-ltb 64 n many in
      let told : Tells 28 (any n breaks || many_entries n) first-told =
      tells-same (or-true (any (entries_seen entries) breaks) (many_entries n) over ∙ sym (or-true (any n breaks) (many_entries n) over)) tells-28 in
      follows-first told (or-true (any n breaks) (many_entries n) over) second-told

  -- RULES 19.4: no fault exactly where tests 28 and 29 are passed, and else the first fault has the refusal's number
  pub week-follows : Follows (week_tests entries) (faults_of entries)
  week-follows = go (dec_le n 64)
    where
      go : Dec (n ≤ 64) → Follows (week_tests entries) (faults_of entries)
      go (yes few) = all_seen few
      go (no many) = some-unseen (omega arith)
