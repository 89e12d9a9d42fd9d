-- The answers to numbers, by the tests on the way, and how they begin. Assumes nothing.
use Prim.Native.Nat.{ℕ, zero, suc, ◌+◌, ◌-◌, ◌*◌, ◌/◌, ◌%◌, ◌<◌}
use mathlib.Core.Path.{◌≡◌, refl, sym, ap, ◌∙◌}
use mathlib.Core.List.{List, ◌∷◌, ◌++◌, flat_map}
use mathlib.Core.Bool.{true, false}
use native.Mathlib.Omega.{arith}
use lib.ListN.{length, get_or}
use lib.Dec.{ltb}
use borrow.Author.Tests.{eq-eqb, ne_eqb}
use Rattle.model.specs.Tables.{any}
use Rattle.model.specs.Listing.{text, decimal, refusal_line}
use Rattle.model.specs.Refusals.{first_of}
use Rattle.replies.specs.Lines.{cannot, spaced}
use Rattle.week.specs.Week.{week, refusal, running, plan_or_dark, answered, plan_at}
use Rattle.programmewords.specs.Programmes.{programme_asked, programme_line, answer_to_programme}
use Rattle.faults.specs.Told.{faults_line}
use Rattle.faults.proofs.LinesBegin.{begins-line, not-ok}
use Rattle.weekwords.specs.WeekFaults.{faults_of}
use Rattle.weekwords.specs.WeekWord.{week_asked, answer_to_week_faults, BeginsWith}
use Rattle.weekwords.proofs.AskedEntries.{week-is, wide_is}
use Rattle.weekwords.proofs.WeekFollows.{week_tests, tests-are, week-follows}

-- so many whole entries, with plans of at most 16 bits
pub record Narrow (numbers : List ℕ) : Type 0 where
  pub threes : length numbers % 3 ≡ 0
  pub narrow : any (length numbers / 3) (λ i. ltb 65535 (get_or numbers (3 * i + 2) 0)) ≡ false

-- ---- what is said

module _ (numbers : List ℕ) where
  pub no-threes : (length numbers % 3 ≡ 0 → ⊥)
      → cannot "each entry has a start, an end and a plan: the numbers are no multiple of three" ≡ answer_to_week_faults numbers
  unfolding answer_to_week_faults
  no-threes n = rw (ne_eqb (length numbers % 3) 0 n)

  pub too_wide : length numbers % 3 ≡ 0 → any (length numbers / 3) (λ i. ltb 65535 (get_or numbers (3 * i + 2) 0)) ≡ true
      → cannot "a plan's number is above 65,535" ≡ answer_to_week_faults numbers
  unfolding answer_to_week_faults
  too_wide t e = rw (eq-eqb (length numbers % 3) 0 t, wide_is 0 numbers ∙ e)

  pub faults-said : Narrow numbers → faults_line (faults_of (week_asked numbers)) ≡ answer_to_week_faults numbers
  unfolding answer_to_week_faults
  faults-said h = rw (eq-eqb (length numbers % 3) 0 h.threes, wide_is 0 numbers ∙ h.narrow)

-- ---- how the answer begins

module _ (numbers : List ℕ) (h : Narrow numbers) where
  abbrev tests : ℕ
  tests = first_of (week_tests (week_asked numbers))

  -- what `programme` answers where a minute of the week is refused
  programme-refused : (minute r : ℕ) → minute < week → tests ≡ suc r → answer_to_programme (minute ∷ numbers) ≡ refusal_line (suc r)
  unfolding answer_to_programme plan_at
  programme-refused minute r in-week e =
      let whole : (length (minute ∷ numbers) - 1) % 3 ≡ 0 = omega (arith, h.threes) in
      let some : length (minute ∷ numbers) ≡ 0 → ⊥ = λ z. omega arith in
      let same : programme_asked (minute ∷ numbers) ≡ week_asked numbers = week-is minute numbers ∙ sym (week-is 0 numbers) in
      let number : refusal (programme_asked (minute ∷ numbers)) minute ≡ suc r =
      ap (λ es. refusal es minute) same ∙ tests-are (week_asked numbers) minute in-week ∙ e in
      rw (ne_eqb (length (minute ∷ numbers)) 0 some, eq-eqb ((length (minute ∷ numbers) - 1) % 3) 0 whole, wide_is minute numbers ∙ h.narrow)
      (ap (λ q. programme_line (answered q (plan_or_dark (running (programme_asked (minute ∷ numbers)) minute)))) number)

  -- RULES 19.4: nothing is told exactly where the programme passes tests 28 and 29
  pub ok-where-passed : (minute : ℕ) → minute < week → refusal (week_asked numbers) minute ≡ 0 → answer_to_week_faults numbers ≡ text "ok\n"
  ok-where-passed minute in-week e =
      sym (faults-said numbers h) ∙ ap faults_line ((week-follows (week_asked numbers)).none (sym (tests-are (week_asked numbers) minute in-week) ∙ e))

  pub passed-where-ok : answer_to_week_faults numbers ≡ text "ok\n" → (minute : ℕ) → minute < week → refusal (week_asked numbers) minute ≡ 0
  passed-where-ok e minute in-week = tests-are (week_asked numbers) minute in-week ∙ go tests refl
    where
      go : (r : ℕ) → tests ≡ r → tests ≡ 0
      go zero p = p
      go (suc r) p =
          let b = (week-follows (week_asked numbers)).some r p in
          absurd (not-ok (suc r) b.place b.which b.others (sym (ap faults_line b.is) ∙ faults-said numbers h ∙ e))

  -- RULES 19.4: and else the first number is that of the refusal with which `programme` is answered
  pub begins-with-refusal : (r minute : ℕ) → minute < week → refusal (week_asked numbers) minute ≡ suc r → BeginsWith numbers (suc r)
  begins-with-refusal r minute in-week e =
      let number = sym (tests-are (week_asked numbers) minute in-week) ∙ e in
      let b = (week-follows (week_asked numbers)).some r number in
      record {
        refused = λ m l. programme-refused m r l number;
        rest = decimal b.place ++ (flat_map spaced (b.which ∷ b.others) ++ text "\n");
        told = sym (faults-said numbers h) ∙ begins-line b;
      }
