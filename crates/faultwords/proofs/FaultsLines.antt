-- The answers to numbers, by the tests on the way, and how they begin. Assumes nothing.
use Prim.Native.Nat.{ℕ, zero, suc, ◌-◌, ◌%◌, ◌≤◌, ◌<◌}
use mathlib.Core.Path.{◌≡◌, refl, sym, ap, ◌∙◌}
use mathlib.Core.List.{List, ◌∷◌, ◌++◌, flat_map}
use mathlib.Core.Bool.{true}
use native.Mathlib.Omega.{arith}
use lib.ListN.{length, replicate}
use borrow.Author.Tests.{lt-ltb, le-ltb, eq-eqb, ne_eqb}
use Rattle.model.specs.Listing.{text, decimal}
use Rattle.model.specs.Refusals.{first_of}
use Rattle.model.specs.WrittenPlan.{number_tests}
use Rattle.model.proofs.WriteRefusals.{refused-writes, by_number}
use Rattle.replies.specs.Lines.{cannot, spaced}
use Rattle.planwords.specs.Plans.{plan_asked, file_line}
use Rattle.planwords.specs.Drafts.{WholeFlows}
use Rattle.planwords.proofs.FileLines.{whole}
use Rattle.faults.specs.Told.{faults_line}
use Rattle.faults.proofs.LinesBegin.{begins-line, not-ok}
use Rattle.faultwords.specs.PlanFaults.{faults_of}
use Rattle.faultwords.specs.FaultsWord.{some_long, answer_to_faults, BeginsWith}
use Rattle.faultwords.specs.Asked.{ShortNumbers}
use Rattle.faultwords.proofs.FaultsFollow.{faults-follow}

-- ---- what is said

module _ (numbers : List ℕ) where
  pub header-missing : length numbers < 3 → cannot "F, W or N is missing" ≡ answer_to_faults numbers
  unfolding answer_to_faults
  header-missing h = rw (lt-ltb (length numbers) 3 h)

  pub no-fours : 3 ≤ length numbers → ((length numbers - 3) % 4 ≡ 0 → ⊥)
      → cannot "each flow has a share, cells, a source and a destination: the numbers after N are no multiple of four" ≡ answer_to_faults numbers
  unfolding answer_to_faults
  no-fours h n = rw (le-ltb (length numbers) 3 h, ne_eqb ((length numbers - 3) % 4) 0 n)

  pub too_long : WholeFlows numbers → some_long numbers ≡ true → cannot "a number has more than nine digits" ≡ answer_to_faults numbers
  unfolding answer_to_faults
  too_long w e = rw (le-ltb (length numbers) 3 w.header, eq-eqb ((length numbers - 3) % 4) 0 w.fours, e)

  pub faults-said : ShortNumbers numbers → faults_line (faults_of (plan_asked numbers)) ≡ answer_to_faults numbers
  unfolding answer_to_faults
  faults-said s =
      let w = s.whole in
      rw (le-ltb (length numbers) 3 w.header, eq-eqb ((length numbers - 3) % 4) 0 w.fours, s.short)

-- ---- how the answer begins

module _ (numbers : List ℕ) (short : ShortNumbers numbers) where
  abbrev tests : ℕ
  tests = first_of (number_tests (plan_asked numbers))

  -- RULES 15.4: nothing is told exactly where the plan passes tests 2 to 7
  pub ok-where-passed : tests ≡ 0 → answer_to_faults numbers ≡ text "ok\n"
  ok-where-passed e = sym (faults-said numbers short) ∙ ap faults_line ((faults-follow (plan_asked numbers)).none e)

  pub passed-where-ok : answer_to_faults numbers ≡ text "ok\n" → tests ≡ 0
  passed-where-ok e = go tests refl
    where
      go : (r : ℕ) → tests ≡ r → tests ≡ 0
      go zero p = p
      go (suc r) p =
          let b = (faults-follow (plan_asked numbers)).some r p in
          absurd (not-ok (suc r) b.place b.which b.others (sym (ap faults_line b.is) ∙ faults-said numbers short ∙ e))

  -- RULES 15.4: and else the first number is that of the refusal with which `plan` is answered
  pub begins-with-refusal : (r : ℕ) → tests ≡ suc r → BeginsWith numbers (suc r)
  begins-with-refusal r e =
      let P = plan_asked numbers in
      let buffer : List ℕ = replicate 76 0 in
      let b = (faults-follow P).some r e in
      record {
        refused =
            sym (whole 76 numbers short.whole)
            ∙ ap (λ w. file_line w.answer P) (refused-writes P buffer (suc r) (omega arith) (by_number P buffer (suc r) (omega arith) e));
        rest = decimal b.place ++ (flat_map spaced (b.which ∷ b.others) ++ text "\n");
        told = sym (faults-said numbers short) ∙ begins-line b;
      }
