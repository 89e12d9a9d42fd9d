-- The test of shared minutes by the entries' starts and ends, and the answer by it. Assumes nothing.
use Prim.Native.Nat.{ℕ, ◌<◌}
use mathlib.Core.Path.{◌≡◌, refl, ap}
use mathlib.Core.List.{List, ◌∷◌, []}
use mathlib.Core.Bool.{Bool, true, false, not, ◌||◌}
use native.Mathlib.Omega.{arith}
use lib.ListN.{length}
use lib.Dec.{ltb}
use borrow.Author.Tests.{not-false}
use Rattle.model.specs.Tables.{any}
use Rattle.model.specs.Refusals.{◌when◌, first_of}
use Rattle.model.specs.Calls.{Answer}
use Rattle.model.proofs.Tests.{any_none, any_same}
use Rattle.week.specs.Week.{Entry, week, entry, some_breaks_limits, some_shared, refusal, AtMinute, running, plan_or_dark, answered, plan_at, KeepsLimits}
use Rattle.week.proofs.OneEntry.{keeps-limits}
use Rattle.week.proofs.SharedMinutes.{shared_by_ends, share_is}

-- some two entries of which each starts before the other ends
abbrev pub some_shared_by_ends : List Entry → Bool
some_shared_by_ends entries = any (length entries) (λ i. any i (λ j. shared_by_ends (entry entries j) (entry entries i)))

pub shared-by-ends : (entries : List Entry) → some_breaks_limits entries ≡ false → some_shared entries ≡ some_shared_by_ends entries
shared-by-ends entries e =
    any_same (length entries) _ _ (λ i h. any_same i _ _ (λ j l. share_is (entry entries j) (entry entries i) (inside j (omega arith)) (inside i h)))
  where
    inside : (i : ℕ) → i < length entries → KeepsLimits (entry entries i)
    inside i h = keeps-limits (entry entries i) (not-false _ (any_none (length entries) _ e i h))

-- the refusal by that test
abbrev pub refusal_by_ends : List Entry → ℕ → ℕ
refusal_by_ends entries minute = first_of (
    28 when (some_breaks_limits entries || ltb 64 (length entries) || not (ltb minute week))
    ∷ 29 when some_shared_by_ends entries
    ∷ [])

pub refused-by-ends : (entries : List Entry) (minute : ℕ) → refusal entries minute ≡ refusal_by_ends entries minute
unfolding refusal first_of
refused-by-ends entries minute = go (some_breaks_limits entries) refl
  where
    go : (b : Bool) → some_breaks_limits entries ≡ b → refusal entries minute ≡ refusal_by_ends entries minute
    go true e = rw e
    go false e = rw (shared-by-ends entries e)

-- the answer by that test
abbrev pub answer_by_ends : List Entry → ℕ → Answer AtMinute
answer_by_ends entries minute = answered (refusal_by_ends entries minute) (plan_or_dark (running entries minute))

pub answered-by-ends : (entries : List Entry) (minute : ℕ) → plan_at entries minute ≡ answer_by_ends entries minute
unfolding plan_at
answered-by-ends entries minute = ap (λ r. answered r (plan_or_dark (running entries minute))) (refused-by-ends entries minute)
