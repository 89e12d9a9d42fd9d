-- The first entry that runs at a minute is the first of those that run. Assumes nothing.
use Prim.Native.Nat.{ℕ, zero, suc, ◌<◌}
use mathlib.Core.Path.{◌≡◌, refl}
use mathlib.Core.List.{List, ◌∷◌, []}
use mathlib.Core.Bool.{Bool, true, false}
use Rattle.std.specs.Prelude.{map}
use native.Mathlib.Omega.{arith}
use Rattle.model.specs.Tables.{table}
use Rattle.week.specs.declared.Entry.{Entry as CodeEntry}
use Rattle.week.specs.Reading.{entry_for, at_minute, plan_found}
use Rattle.week.specs.Week.{Entry, runs, plan, dark, running, plan_or_dark}

pub plan-of-first : (n : ℕ) (f : ℕ → Entry) (minute i : ℕ) → i < n → runs (f i) minute ≡ true → ((k : ℕ) → k < i → runs (f k) minute ≡ false)
    → plan_or_dark (running (table n f) minute) ≡ plan (f i).plan
unfolding running
plan-of-first zero f minute i l e before = absurd (omega arith)
plan-of-first (suc n) f minute zero l e before = rw e
plan-of-first (suc n) f minute (suc i) l e before =
    rw (before 0 (omega arith)) (plan-of-first n (λ k. f (suc k)) minute i (omega arith) e (λ k h. before (suc k) (omega arith)))

pub dark-of-none : (n : ℕ) (f : ℕ → Entry) (minute : ℕ) → ((k : ℕ) → k < n → runs (f k) minute ≡ false) → plan_or_dark (running (table n f) minute) ≡ dark
unfolding running
dark-of-none zero f minute none = refl
dark-of-none (suc n) f minute none = rw (none 0 (omega arith)) (dark-of-none n (λ k. f (suc k)) minute (λ k h. none (suc k) (omega arith)))

-- of a list's entries, the first that runs
pub first-found : (entries : List CodeEntry) (minute : ℕ) → at_minute (plan_found entries minute) ≡ plan_or_dark (running (map entry_for entries) minute)
unfolding running
first-found [] minute = refl
first-found (e ∷ rest) minute = go (runs (entry_for e) minute) refl (first-found rest minute)
  where
    go : (b : Bool) → runs (entry_for e) minute ≡ b → at_minute (plan_found rest minute) ≡ plan_or_dark (running (map entry_for rest) minute)
        → at_minute (plan_found (e ∷ rest) minute) ≡ plan_or_dark (running (map entry_for (e ∷ rest)) minute)
    go true p later = rw p
    go false p later = rw p later
