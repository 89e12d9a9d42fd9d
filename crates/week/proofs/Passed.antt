-- What a programme keeps that passes, and what is answered by the refusal. Assumes nothing.
use Prim.Native.Nat.{ℕ, ◌≤◌}
use mathlib.Core.Path.{◌≡◌, sym}
use mathlib.Core.List.{List}
use mathlib.Core.Bool.{◌||◌}
use native.Mathlib.Omega.{arith}
use lib.ListN.{length}
use lib.Dec.{ltb}
use borrow.Author.Tests.{ltb-true, ltb-false, not-false}
use Rattle.model.specs.Calls.{accepted, refused}
use Rattle.model.proofs.Tables.{length-table}
use Rattle.model.proofs.Tests.{or-false, any_none, line-passed}
use Rattle.week.specs.declared.Programme.{Programme}
use Rattle.week.specs.declared.Refusal.{Refusal}
use Rattle.week.specs.declared.Refusal.TheVariants.{Limits, Shared}
use Rattle.week.specs.Week.{Entry, week, entry, some_breaks_limits, refusal, running, plan_or_dark, plan_at, Passed}
use Rattle.week.specs.Reading.{stored, entries_of, number}
use Rattle.week.proofs.OneEntry.{keeps-limits}

pub passed : (entries : List Entry) (minute : ℕ) → refusal entries minute ≡ 0 → Passed entries minute
unfolding refusal
passed entries minute e =
    let first = line-passed _ 27 _ e in
    let last = line-passed _ 28 _ first.1 in
    let asked = or-false (some_breaks_limits entries || ltb 64 (length entries)) _ first.0 in
    let counted = or-false (some_breaks_limits entries) _ asked.0 in
    record {
      few = ltb-false 64 (length entries) counted.1;
      minute_in = ltb-true minute week (not-false _ asked.1);
      keeps-limits = λ i h. keeps-limits (entry entries i) (not-false _ (any_none (length entries) _ counted.0 i h));
      apart = λ i j h l. any_none i _ (any_none (length entries) _ last.0 i h) j l;
    }

pub few-entries : (p : Programme) (minute : ℕ) → refusal (entries_of p) minute ≡ 0 → p.count ≤ 64
few-entries p minute e = omega (arith, (passed (entries_of p) minute e).few, length-table p.count (stored p.entries))

-- ---- the answer, by the refusal

module _ (entries : List Entry) (minute : ℕ) where
  -- a programme that is refused, by the refusal's number
  pub refused-answer : (e : Refusal) → number e ≡ refusal entries minute → refused (number e) ≡ plan_at entries minute
  unfolding plan_at
  refused-answer Limits h = rw (sym h)
  refused-answer Shared h = rw (sym h)

  pub passing-answer : refusal entries minute ≡ 0 → accepted (plan_or_dark (running entries minute)) ≡ plan_at entries minute
  unfolding plan_at
  passing-answer e = rw e
