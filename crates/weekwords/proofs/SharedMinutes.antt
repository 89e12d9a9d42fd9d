-- Two entries share a minute exactly if both run at the later of their starts, and that is a minute of the week. Assumes nothing.
use Prim.Native.Nat.{ℕ, ◌≤◌, ◌<◌, max}
use mathlib.Core.Path.{◌≡◌, ap, ◌∙◌}
use mathlib.Core.Bool.{Bool, true, false, ◌&&◌}
use native.Mathlib.Omega.{arith}
use lib.Dec.{ltb}
use borrow.Author.Tests.{ltb-true, lt-ltb, le-ltb}
use Rattle.model.proofs.Tests.{and-true, same_truth}
use Rattle.week.specs.Week.{Entry, week, runs, share_minute}
use Rattle.week.proofs.OneEntry.{runs-true, runs-at}
use Rattle.week.proofs.SharedMinutes.{any-passes, share-at}

abbrev pub later_start : Entry → Entry → ℕ
later_start a b = max a.start b.start

abbrev pub shared_by_start : Entry → Entry → Bool
shared_by_start a b = ltb (later_start a b) week && ltb (later_start a b) a.end && ltb (later_start a b) b.end

module _ (a b : Entry) where
  abbrev m : ℕ
  m = later_start a b

  -- where both run the later start has come
  shared-then : share_minute a b ≡ true → shared_by_start a b ≡ true
  unfolding share_minute
  shared-then e =
      let at = any-passes week (λ minute. runs a minute && runs b minute) e in
      let both = and-true _ _ at.passes in
      let run-a = runs-true a at.place both.0 in
      let run-b = runs-true b at.place both.1 in
      let come : m ≤ at.place = omega (arith, run-a.0, run-b.0) in
      rw (
        lt-ltb m week (omega (arith, at.below)),
        lt-ltb m a.end (omega (arith, run-a.1)),
        lt-ltb m b.end (omega (arith, run-b.1)),
      )

  then-shared : shared_by_start a b ≡ true → share_minute a b ≡ true
  then-shared e =
      let two = and-true (ltb m week && ltb m a.end) (ltb m b.end) e in
      let one = and-true (ltb m week) (ltb m a.end) two.0 in
      let runs-a = runs-at a m (omega arith) (ltb-true m a.end one.1) in
      let runs-b = runs-at b m (omega arith) (ltb-true m b.end two.1) in
      share-at a b m (ltb-true m week one.0) runs-a runs-b

  pub share_is : share_minute a b ≡ shared_by_start a b
  share_is = same_truth (share_minute a b) (shared_by_start a b) shared-then then-shared

  -- ---- by the tests of the later start, one after another

  module _ (start : ℕ) (later : start ≡ later_start a b) where
    pub week-over : week ≤ start → false ≡ share_minute a b
    week-over h = let late : week ≤ m = omega (arith, later) in rw (share_is, le-ltb m week late)

    pub first-over : start < week → a.end ≤ start → false ≡ share_minute a b
    first-over h l =
        let early : m < week = omega (arith, later) in
        let late : a.end ≤ m = omega (arith, later) in
        rw (share_is, lt-ltb m week early, le-ltb m a.end late)

    pub by-second : start < week → start < a.end → ltb start b.end ≡ share_minute a b
    by-second h l =
        let early : m < week = omega (arith, later) in
        let before : m < a.end = omega (arith, later) in
        ap (λ s. ltb s b.end) later ∙ rw (share_is, lt-ltb m week early, lt-ltb m a.end before)
