-- Two entries that keep their limits share a minute exactly if each starts before the other ends. Assumes nothing.
use Prim.Native.Nat.{ℕ, zero, suc, ◌≤◌, ◌<◌}
use mathlib.Core.Path.{◌≡◌, refl, ap₂}
use mathlib.Core.Bool.{Bool, true, false, ◌&&◌, ◌||◌}
use native.Mathlib.Decide.{dec_le}
use native.Mathlib.Omega.{arith}
use lib.Dec.{ltb}
use borrow.Author.Tests.{ltb-true, lt-ltb, le-ltb}
use Rattle.model.specs.Tables.{any}
use Rattle.model.proofs.Tests.{and-true, same_truth, any-hit}
use Rattle.week.specs.Week.{Entry, week, runs, share_minute, KeepsLimits}
use Rattle.week.proofs.OneEntry.{runs-true, runs-at}

-- a number below n that passes f
pub record Passes (n : ℕ) (f : ℕ → Bool) : Type 0 where
  pub place : ℕ
  pub below : place < n
  pub passes : f place ≡ true

pub any-passes : (n : ℕ) (f : ℕ → Bool) → any n f ≡ true → Passes n f
unfolding any
any-passes zero f e = absurd (let z : ◌≡◌ {A = ℕ} 0 1 = cc in omega arith)
any-passes (suc n) f e = go (any-passes n f) (f n) refl e
  where
    go : (any n f ≡ true → Passes n f) → (b : Bool) → f n ≡ b → b || any n f ≡ true → Passes (suc n) f
    go rest true q e' = record { place = n; below = omega arith; passes = q }
    go rest false q e' = let r = rest e' in record { place = r.place; below = omega (arith, r.below); passes = r.passes }

-- each of two entries starts before the other ends
abbrev pub shared_by_ends : Entry → Entry → Bool
shared_by_ends a b = ltb a.start b.end && ltb b.start a.end

-- a minute at which both run
pub share-at : (a b : Entry) (minute : ℕ) → minute < week → runs a minute ≡ true → runs b minute ≡ true → share_minute a b ≡ true
unfolding share_minute
share-at a b minute h p q = any-hit week (λ m. runs a m && runs b m) minute h (ap₂ ◌&&◌ p q)

module _ (a b : Entry) (keeps-a : KeepsLimits a) (keeps-b : KeepsLimits b) where
  shared-then-by-ends : share_minute a b ≡ true → shared_by_ends a b ≡ true
  unfolding share_minute
  shared-then-by-ends p =
      let at = any-passes week (λ m. runs a m && runs b m) p in
      let both = and-true _ _ at.passes in
      let run-a = runs-true a at.place both.0 in
      let run-b = runs-true b at.place both.1 in
      rw (lt-ltb a.start b.end (omega arith), lt-ltb b.start a.end (omega arith))

  -- the later of the two starts is such a minute
  by-ends-then-shared : shared_by_ends a b ≡ true → share_minute a b ≡ true
  by-ends-then-shared p = go (dec_le a.start b.start)
    where
      starts : (a.start < b.end) × (b.start < a.end)
      starts = let q = and-true _ _ p in (ltb-true a.start b.end q.0, ltb-true b.start a.end q.1)

      go : Dec (a.start ≤ b.start) → share_minute a b ≡ true
      go (yes y) =
          let h = starts in
          let w = keeps-b.before_end in
          share-at a b b.start (omega (arith, keeps-b.to_the_end)) (runs-at a b.start y h.1) (runs-at b b.start (omega arith) w)
      go (no y) =
          let h = starts in
          let w = keeps-a.before_end in
          share-at a b a.start (omega (arith, keeps-a.to_the_end)) (runs-at a a.start (omega arith) w) (runs-at b a.start (omega arith) h.0)

  pub share_is : share_minute a b ≡ shared_by_ends a b
  share_is = same_truth (share_minute a b) (shared_by_ends a b) shared-then-by-ends by-ends-then-shared

  -- where the second entry ends before the first starts, or as it does, they share none, and else it goes by the other test
  pub apart : b.end ≤ a.start → false ≡ share_minute a b
  apart h = rw (share_is, le-ltb a.start b.end h)

  pub by-other-start : a.start < b.end → ltb b.start a.end ≡ share_minute a b
  by-other-start h = rw (share_is, lt-ltb a.start b.end h)
