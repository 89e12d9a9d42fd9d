-- An entry by itself: when it keeps its limits, and when it runs. Assumes nothing.
use Prim.Native.Nat.{ℕ, ◌≤◌, ◌<◌}
use mathlib.Core.Path.{◌≡◌, sym, ◌∙◌}
use mathlib.Core.Bool.{true, false, ◌&&◌}
use native.Mathlib.Decide.{dec_le}
use native.Mathlib.Omega.{arith}
use lib.Dec.{leb, ltb, leb-zero}
use borrow.Author.Tests.{ltb-true, leb-true, lt-ltb, le-ltb, le-leb, lt-leb}
use Rattle.model.specs.Tables.{within}
use Rattle.model.proofs.Tests.{and-true, and-false, within-true}
use Rattle.week.specs.Week.{Entry, week, runs, keeps_limits, KeepsLimits}

-- ---- its limits

pub ends-first : (e : Entry) → e.end ≤ e.start → false ≡ keeps_limits e
unfolding keeps_limits
ends-first e h = rw (le-ltb e.start e.end h)

-- of an entry that starts before it ends only the end can lie outside
pub limits-by-end : (e : Entry) → e.start < e.end → leb e.end week ≡ keeps_limits e
unfolding keeps_limits
limits-by-end e h = go (dec_le e.end week)
  where
    go : Dec (e.end ≤ week) → leb e.end week ≡ keeps_limits e
    go (yes y) = rw (
      le-leb e.end week y,
      lt-ltb e.start e.end h,
      leb-zero e.start,
      le-leb e.start week (omega arith),
      leb-zero e.end,
    )
    go (no y) = rw (lt-leb e.end week (omega arith), leb-zero e.end) (sym (and-false (ltb e.start e.end && within 0 week e.start)))

pub keeps-limits : (e : Entry) → keeps_limits e ≡ true → KeepsLimits e
unfolding keeps_limits
keeps-limits e p =
    let q = and-true _ _ p in
    let r = and-true _ _ q.0 in
    record { before_end = ltb-true e.start e.end r.0; to_the_end = (within-true 0 week e.end q.1).1 }

pub kept-passes : (e : Entry) → KeepsLimits e → keeps_limits e ≡ true
kept-passes e h = sym (limits-by-end e h.before_end) ∙ le-leb e.end week h.to_the_end

-- ---- running

pub runs-true : (e : Entry) (minute : ℕ) → runs e minute ≡ true → (e.start ≤ minute) × (minute < e.end)
runs-true e minute p = let q = and-true _ _ p in (leb-true e.start minute q.0, ltb-true minute e.end q.1)

pub runs-at : (e : Entry) (minute : ℕ) → e.start ≤ minute → minute < e.end → runs e minute ≡ true
runs-at e minute low high = rw (le-leb e.start minute low, lt-ltb minute e.end high)
