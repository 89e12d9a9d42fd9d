-- What the reader comes to, by the place where it returns. Assumes nothing.
use Prim.Native.Nat.{ℕ, ◌-◌, ◌*◌, ◌<◌, ◌≤◌}
use mathlib.Core.Path.{◌≡◌, sym, ap, ◌∙◌, subst}
use mathlib.Core.List.{List, ◌∷◌}
use mathlib.Core.Bool.{Bool, true, false}
use native.Mathlib.Decide.{dec_lt}
use native.Mathlib.Omega.{arith}
use lib.ListN.{length, get_or, take, drop, length-drop}
use lib.Seq.{take_all}
use borrow.Author.Tests.{lt-ltb, le-ltb, eq-eqb, ne_eqb}
use Rattle.plan.specs.declared.Entry.{Entry}
use Rattle.plan.specs.declared.Plan.{Plan}
use Rattle.plan.specs.declared.header.Header.{Header}
use Rattle.model.specs.Tables.{table}
use Rattle.model.specs.Refusals.{condition, first_of}
use Rattle.model.specs.Plan as model
use Rattle.model.proofs.Plan as of_plan
use Rattle.model.specs.WrittenPlan.{number_tests}
use Rattle.model.proofs.WrittenPlan.{same-header}
use Rattle.model.proofs.Tables.{length-table, get_d-table, get_d-table-past, table_same}
use Rattle.limits.specs.Reading.{draft_for}
use Rattle.plan.specs.Reading.{header_for, entry_for, no_entry, plan_for, stored_entry, stored_entries, stored}
use Rattle.plan.specs.Reading.{draft_of, Valid}
use Rattle.plan.proofs.Stored.{drafted}

-- ---- the refusal of the bytes, test by test

pub too_short : (b : List ℕ) → length b < 12 → model.refusal b ≡ 1
unfolding model.refusal first_of
too_short b h = rw (lt-ltb (length b) 12 h)

module _ (b : List ℕ) (long : 12 ≤ length b) where
  pub other_length : (length b ≡ (model.header_of b).total → ⊥) → model.refusal b ≡ 1
  unfolding model.refusal first_of
  other_length d = rw (le-ltb (length b) 12 long, ne_eqb (length b) (model.header_of b).total d)

  module _ (same : length b ≡ (model.header_of b).total) where
    pub other_count : condition (model.count_test (model.header_of b)) ≡ true → model.refusal b ≡ 2
    unfolding model.refusal first_of
    other_count e = rw (le-ltb (length b) 12 long, eq-eqb (length b) (model.header_of b).total same, e)

    pub by_tests : model.refusal b ≡ first_of (model.count_test (model.header_of b) ∷ model.limit_tests (model.plan_of b))
    unfolding model.refusal first_of
    by_tests = rw (le-ltb (length b) 12 long, eq-eqb (length b) (model.header_of b).total same)

-- ---- the plan that is read

-- What is known once the header h passed tests 1 and 2.
pub record Counted (b : List ℕ) (h : Header) : Type 0 where
  pub header : header_for h ≡ model.header_of b
  pub long : 12 ≤ length b
  pub same : length b ≡ h.total
  pub counts : condition (model.count_test (header_for h)) ≡ false

pub counted-by : {b : List ℕ} {h : Header} {broken : Bool} → header_for h ≡ model.header_of b → 12 ≤ length b → length b ≡ h.total
    → broken ≡ condition (model.count_test (header_for h)) → broken ≡ false → Counted b h
counted-by header long same test passed = record { header = header; long = long; same = same; counts = sym test ∙ passed }

module _ {b : List ℕ} {h : Header} (k : Counted b h) where
  pub in_count : of_plan.Counted (header_for h)
  in_count = of_plan.counts-passed (header_for h) k.counts

  -- the slice from byte 12 is all of the flow part
  pub whole_part : take (length b - 12) (drop 12 b) ≡ drop 12 b
  whole_part = take_all (length b - 12) (drop 12 b) (omega (arith, length-drop 12 b))

  pub part-long : 4 * h.count ≤ length (take (length b - 12) (drop 12 b))
  part-long = rw whole_part (omega (arith, length-drop 12 b, k.same, in_count.total_is))

  -- the refusal is by the tests of the plan's numbers
  pub refused-by : model.refusal b ≡ first_of (number_tests (model.plan_of b))
  refused-by =
      let header = same-header b (subst of_plan.Counted k.header in_count) in
      by_tests b k.long (k.same ∙ ap (λ (x : model.Header). x.total) k.header)
      ∙ ap (λ h. first_of (model.count_test h ∷ model.limit_tests (model.plan_of b))) (sym header)

abbrev pub plan_from : Header → List Entry → Plan
plan_from h es = record { slots = h.slots; frames = h.frames; buffer = h.buffer; count = h.count; entries = es }

-- the entries that are read of the flow part
abbrev entries_read : List ℕ → Header → List Entry
entries_read b h = stored_entries (model.entries_of h.count (take (length b - 12) (drop 12 b)))

module _ {b : List ℕ} {h : Header} (k : Counted b h) (es : List Entry) (entries : es ≡ entries_read b h) where
  n : ℕ
  n = h.count

  from-part : ℕ → model.Entry
  from-part = model.entry_of (drop 12 b)

  few : n ≤ 16
  unfolding n
  few = (in_count k).flows_most

  count_is : n ≡ (model.header_of b).count
  unfolding n
  count_is = ap (λ (x : model.Header). x.count) k.header

  entries-are : es ≡ stored_entries (table n from-part)
  unfolding n from-part
  entries-are = entries ∙ ap (λ p. stored_entries (model.entries_of h.count p)) (whole_part k)

  -- an entry that is stored is the entry of the part
  stored_at : (i : ℕ) → i < n → entry_for (get_or es i no_entry) ≡ from-part i
  unfolding stored_entries
  stored_at i l =
      ap (λ xs. entry_for (get_or xs i no_entry)) entries-are
      ∙ ap entry_for (get_d-table 16 (λ j. stored_entry (get_or (table n from-part) j model.no_entry)) i no_entry (omega (arith, few)))
      ∙ get_d-table n from-part i model.no_entry l

  pub reads_as : plan_for (plan_from h es) ≡ model.plan_of b
  unfolding n from-part
  reads_as =
      let parts = table_same n (λ i. entry_for (get_or es i no_entry)) from-part stored_at ∙ ap (λ j. table j from-part) count_is in
      λ j. record { slots = (k.header j).slots; frames = (k.header j).frames; buffer = (k.header j).buffer; entries = parts j }

  pub stored_is : plan_from h es ≡ stored (model.plan_of b)
  unfolding stored n from-part
  stored_is =
      let count : h.count ≡ model.flow_count (model.plan_of b) = count_is ∙ sym (length-table (model.header_of b).count (model.entry_of (drop 12 b))) in
      let all = entries-are ∙ ap (λ j. stored_entries (table j from-part)) count_is in
      λ j. record { slots = (k.header j).slots; frames = (k.header j).frames; buffer = (k.header j).buffer; count = count j; entries = all j }

  -- past the last flow the entries are all zero
  spare-at : (i : ℕ) → n ≤ i → Dec (i < 16) → get_or es i no_entry ≡ no_entry
  unfolding stored_entries
  spare-at i l (yes m) =
      ap (λ xs. get_or xs i no_entry) entries-are
      ∙ get_d-table 16 (λ j. stored_entry (get_or (table n from-part) j model.no_entry)) i no_entry m
      ∙ ap stored_entry (get_d-table-past n from-part i model.no_entry l)
  spare-at i l (no m) =
      ap (λ xs. get_or xs i no_entry) entries-are
      ∙ get_d-table-past 16 (λ j. stored_entry (get_or (table n from-part) j model.no_entry)) i no_entry (omega arith)

  pub valid-plan : model.refusal b ≡ 0 → Valid (plan_from h es)
  unfolding stored_entries n
  valid-plan e = record {
    accepted = subst model.Accepted (sym reads_as) (of_plan.accepted b e);
    long = ap length entries;
    spare = λ i l. spare-at i l (dec_lt i 16);
  }

  -- the refusal is that of the plan that was read, as it would be asked for
  pub number_is : first_of (number_tests (draft_for (draft_of (plan_from h es)))) ≡ model.refusal b
  unfolding n
  number_is = ap (λ P. first_of (number_tests P)) (drafted (plan_from h es) few ∙ reads_as) ∙ sym (refused-by k)
