-- In a programme that passes at most one entry runs at any minute, so that the answer's plan is that of the only one. Assumes nothing.
use Prim.Native.Nat.{ℕ, suc, ◌≤◌, ◌<◌}
use mathlib.Core.Path.{◌≡◌, refl, ap}
use mathlib.Core.List.{List, ◌∷◌, []}
use mathlib.Core.Bool.{Bool, true, false, cond}
use native.Mathlib.Decide.{dec_lt}
use native.Mathlib.Omega.{arith}
use lib.ListN.{length}
use Rattle.week.specs.Week.{Entry, entry, runs, refusal, running, Passed}
use Rattle.week.specs.Meaning.{RunsAt, NoneRuns}
use Rattle.week.proofs.OneEntry.{runs-true}
use Rattle.week.proofs.SharedMinutes.{share-at}
use Rattle.week.proofs.Passed.{passed}

-- ---- at most one

module _ (entries : List Entry) (asked : ℕ) (p : Passed entries asked) (minute : ℕ) where
  -- an entry at a lower place does not run when one at a higher place does
  not_lower : (i j : ℕ) → RunsAt entries minute i → RunsAt entries minute j → j < i → ⊥
  not_lower i j now-i now-j l =
      let keeps-i = p.keeps-limits i now-i.below in
      let run-i = runs-true (entry entries i) minute now-i.runs_then in
      let shared = share-at (entry entries j) (entry entries i) minute (omega (arith, run-i.1, keeps-i.to_the_end)) now-j.runs_then now-i.runs_then in
      let none = p.apart i j now-i.below l in
      let z : ◌≡◌ {A = ℕ} 0 1 = cc in
      omega arith

  only_one : (i j : ℕ) → RunsAt entries minute i → RunsAt entries minute j → i ≡ j
  only_one i j now-i now-j = go (dec_lt i j) (dec_lt j i)
    where
      go : Dec (i < j) → Dec (j < i) → i ≡ j
      go (yes l) d = absurd (not_lower j i now-j now-i l)
      go (no l) (yes m) = absurd (not_lower i j now-i now-j m)
      go (no l) (no m) = omega arith

module _ (entries : List Entry) (asked : ℕ) (e : refusal entries asked ≡ 0) (minute : ℕ) where
  -- Whatever minute was asked for: at any minute at most one entry runs.
  pub one_at_most : (i j : ℕ) → RunsAt entries minute i → RunsAt entries minute j → i ≡ j
  one_at_most = only_one entries asked (passed entries asked e) minute

-- ---- the entries that run, as a list

none-run : (entries : List Entry) (minute : ℕ) → NoneRuns entries minute → running entries minute ≡ []
unfolding running
none-run [] minute h = refl
none-run (e ∷ rest) minute h = rw (h 0 (omega arith)) (none-run rest minute (λ i l. h (suc i) (omega arith)))

pub one-running : (entries : List Entry) (minute : ℕ) → ((i j : ℕ) → RunsAt entries minute i → RunsAt entries minute j → i ≡ j) → length (running entries minute) ≤ 1
unfolding running
one-running [] minute h = omega arith
one-running (e ∷ rest) minute h = go (one-running rest minute later) (runs e minute) refl
  where
    shift : (i : ℕ) → RunsAt rest minute i → RunsAt (e ∷ rest) minute (suc i)
    shift i r = record { below = omega (arith, r.below); runs_then = r.runs_then }

    later : (i j : ℕ) → RunsAt rest minute i → RunsAt rest minute j → i ≡ j
    later i j r s = omega (arith, h (suc i) (suc j) (shift i r) (shift j s))

    go : length (running rest minute) ≤ 1 → (b : Bool) → runs e minute ≡ b → length (cond b (e ∷ running rest minute) (running rest minute)) ≤ 1
    go some false q = some
    go some true q = omega (arith, ap length (none-run rest minute none-runs-after))
      where
        none-runs-after : NoneRuns rest minute
        none-runs-after i l = none (runs (entry rest i) minute) refl
          where
            none : (b : Bool) → runs (entry rest i) minute ≡ b → b ≡ false
            none false r = refl
            none true r =
                let z = h 0 (suc i) (record { below = omega arith; runs_then = q }) (shift i (record { below = l; runs_then = r })) in
                absurd (omega arith)
