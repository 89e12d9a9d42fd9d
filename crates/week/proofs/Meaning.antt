-- The answer of a programme that passes: a plan exactly if an entry of that plan runs, and dark exactly if none does. Assumes nothing.
use Prim.Native.Nat.{ℕ, zero, suc, ◌<◌}
use mathlib.Core.Path.{◌≡◌, refl, sym, ap, ◌∙◌}
use mathlib.Core.Logic.{◌↔◌}
use mathlib.Core.List.{List, ◌∷◌, []}
use mathlib.Core.Bool.{Bool, true, false, cond}
use native.Mathlib.Omega.{arith}
use lib.ListN.{length}
use Rattle.model.specs.Tables.{table}
use Rattle.model.specs.Calls.{accepted}
use Rattle.model.proofs.Tables.{table-get_d}
use Rattle.week.specs.Week.{Entry, no_entry, entry, runs, refusal, AtMinute, plan, dark, running, plan_or_dark, plan_at}
use Rattle.week.specs.Meaning.{RunsAt, PlanRuns, NoneRuns}
use Rattle.week.proofs.FirstRunning.{plan-of-first, dark-of-none}
use Rattle.week.proofs.Passed.{passing-answer}
use Rattle.week.proofs.OneAtMost.{one_at_most}

-- ---- from a plan or dark to the entries

plan-runs : (entries : List Entry) (minute number : ℕ) → plan_or_dark (running entries minute) ≡ plan number → PlanRuns entries minute number
unfolding running
plan-runs [] minute number e = let z : ◌≡◌ {A = ℕ} 0 1 = cc in absurd (omega arith)
plan-runs (x ∷ rest) minute number e = go (plan-runs rest minute number) (runs x minute) refl e
  where
    go : (plan_or_dark (running rest minute) ≡ plan number → PlanRuns rest minute number) → (b : Bool) → runs x minute ≡ b
        → plan_or_dark (cond b (x ∷ running rest minute) (running rest minute)) ≡ plan number → PlanRuns (x ∷ rest) minute number
    go later true q e' = record { place = 0; there = record { below = omega arith; runs_then = q }; of_plan = cc }
    go later false q e' =
        let r = later e' in
        record { place = suc r.place; there = record { below = omega (arith, r.there.below); runs_then = r.there.runs_then }; of_plan = r.of_plan }

none-runs-more : (x : Entry) (rest : List Entry) (minute : ℕ) → runs x minute ≡ false → NoneRuns rest minute → NoneRuns (x ∷ rest) minute
none-runs-more x rest minute q later zero l = q
none-runs-more x rest minute q later (suc i) l = later i (omega arith)

dark-none-runs : (entries : List Entry) (minute : ℕ) → plan_or_dark (running entries minute) ≡ dark → NoneRuns entries minute
unfolding running
dark-none-runs [] minute e i l = absurd (omega arith)
dark-none-runs (x ∷ rest) minute e i l = go (dark-none-runs rest minute) (runs x minute) refl e i l
  where
    go : (plan_or_dark (running rest minute) ≡ dark → NoneRuns rest minute) → (b : Bool) → runs x minute ≡ b
        → plan_or_dark (cond b (x ∷ running rest minute) (running rest minute)) ≡ dark → NoneRuns (x ∷ rest) minute
    go later true q e' = let z : ◌≡◌ {A = ℕ} 0 1 = cc in absurd (omega arith)
    go later false q e' = none-runs-more x rest minute q (later e')

-- ---- the answer

module _ (entries : List Entry) (minute : ℕ) (passes : refusal entries minute ≡ 0) where
  accepted-is : (x : AtMinute) → plan_at entries minute ≡ accepted x → plan_or_dark (running entries minute) ≡ x
  accepted-is x e = let q = passing-answer entries minute passes ∙ e in cc

  -- the entries, place by place
  by_place : running (table (length entries) (entry entries)) minute ≡ running entries minute
  by_place = ap (λ es. running es minute) (table-get_d entries no_entry)

  only : (i k : ℕ) → RunsAt entries minute i → k < i → (b : Bool) → runs (entry entries k) minute ≡ b → b ≡ false
  only i k here l false e = refl
  only i k here l true e =
      let z = one_at_most entries minute passes minute i k here (record { below = omega (arith, here.below); runs_then = e }) in
      absurd (omega arith)

  runs-plan : (number : ℕ) → PlanRuns entries minute number → plan_or_dark (running entries minute) ≡ plan number
  runs-plan number r =
      let here = r.there in
      ap plan_or_dark (sym by_place)
      ∙ plan-of-first (length entries) (entry entries) minute r.place here.below here.runs_then (λ k l. only r.place k here l (runs (entry entries k) minute) refl)
      ∙ ap plan r.of_plan

  pub plan-means : (number : ℕ) → (plan_at entries minute ≡ accepted (plan number)) ↔ PlanRuns entries minute number
  plan-means number = (
    λ e. plan-runs entries minute number (accepted-is (plan number) e),
    λ r. sym (passing-answer entries minute passes) ∙ ap accepted (runs-plan number r),
  )

  pub dark-means : (plan_at entries minute ≡ accepted dark) ↔ NoneRuns entries minute
  dark-means = (
    λ e. dark-none-runs entries minute (accepted-is dark e),
    λ h. sym (passing-answer entries minute passes) ∙ ap accepted (ap plan_or_dark (sym by_place) ∙ dark-of-none (length entries) (entry entries) minute h),
  )
