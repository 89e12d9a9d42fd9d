-- The lines of numbers that ask about a programme. Assumes nothing.
use Prim.Native.Nat.{ℕ, ◌+◌, ◌-◌, ◌*◌, ◌%◌, ◌≤◌}
use mathlib.Core.Path.{◌≡◌, sym, ap, ◌∙◌}
use mathlib.Core.List.{List}
use mathlib.Core.Bool.{true, false}
use native.Mathlib.Decide.{dec_le}
use native.Mathlib.Omega.{arith}
use lib.ListN.{length, get_or, get_or-eq_default}
use lib.Dec.{ltb}
use borrow.Author.Tests.{eq-eqb, ne_eqb}
use Rattle.model.specs.Tables.{table, any}
use Rattle.model.proofs.Tables.{length-table, get_d-table, table_same}
use Rattle.week.specs.declared.Entry.{Entry as CodeEntry}
use Rattle.week.specs.declared.Programme.{Programme}
use Rattle.week.specs.Week.{plan_at}
use Rattle.week.specs.Reading.{empty_entry, entry_for, entries_of}
use Rattle.week.proofs.Refusals.{many-refused}
use Rattle.replies.specs.Lines.{cannot}
use Rattle.programmewords.specs.Programmes.{minute_asked, entries_asked, entry_asked, programme_asked, programme_line, answer_to_programme}
use Rattle.programmewords.specs.Asked.{WholeEntries, stored_entry, stored_asked}

-- past the numbers there are only zeros
pub past : (numbers : List ℕ) (count k : ℕ) → WholeEntries numbers count → count ≤ k → stored_entry numbers k ≡ empty_entry
past numbers count k w h =
    let zero-at : (j : ℕ) → 1 + 3 * k ≤ j → get_or numbers j 0 ≡ 0 = λ j l. get_or-eq_default numbers 0 {n = j} (omega (arith, w.many)) in
    λ t. record { start = zero-at (1 + 3 * k) (omega arith) t; end = zero-at (1 + 3 * k + 1) (omega arith) t; plan = zero-at (1 + 3 * k + 2) (omega arith) t }

pub stored_is : (numbers : List ℕ) (count : ℕ) (entries : List CodeEntry) → WholeEntries numbers count → entries ≡ table 64 (stored_entry numbers)
    → ◌≡◌ {A = Programme} (record { count = count; entries = entries }) (stored_asked numbers)
unfolding stored_asked
stored_is numbers count entries w e =
    let same : count ≡ entries_asked numbers = omega (arith, w.many) in
    λ t. record { count = same t; entries = e t }

-- The stored programme has the answers of the one that is asked about: it is the same one, or both have too many entries.
stored_answer : (numbers : List ℕ) → (minute : ℕ) → plan_at (entries_of (stored_asked numbers)) minute ≡ plan_at (programme_asked numbers) minute
unfolding stored_asked
stored_answer numbers minute = go (dec_le (entries_asked numbers) 64)
  where
    go : Dec (entries_asked numbers ≤ 64) → plan_at (entries_of (stored_asked numbers)) minute ≡ plan_at (programme_asked numbers) minute
    go (yes few) =
        ap (λ es. plan_at es minute) (table_same (entries_asked numbers) _ (entry_asked numbers)
        (λ i l. ap entry_for (get_d-table 64 (stored_entry numbers) i empty_entry (omega arith))))
    go (no many) =
        many-refused (entries_of (stored_asked numbers)) minute (omega (arith, length-table (entries_asked numbers) (λ i. entry_for (get_or (table 64 (stored_entry numbers)) i empty_entry))))
        ∙ sym (many-refused (programme_asked numbers) minute (omega (arith, length-table (entries_asked numbers) (entry_asked numbers))))

module _ (numbers : List ℕ) where
  pub minute-missing : length numbers ≡ 0 → cannot "the minute is missing" ≡ answer_to_programme numbers
  unfolding answer_to_programme
  minute-missing e = rw (eq-eqb (length numbers) 0 e)

  pub no-threes : (length numbers ≡ 0 → ⊥) → ((length numbers - 1) % 3 ≡ 0 → ⊥)
      → cannot "each entry has a start, an end and a plan: the numbers after the minute are no multiple of three" ≡ answer_to_programme numbers
  unfolding answer_to_programme
  no-threes some odd = rw (ne_eqb (length numbers) 0 some, ne_eqb ((length numbers - 1) % 3) 0 odd)

  module _ (count : ℕ) (w : WholeEntries numbers count) where
    whole : (entries_asked numbers ≡ count) × (length numbers ≡ 0 → ⊥) × ((length numbers - 1) % 3 ≡ 0)
    whole = (omega (arith, w.many), λ e. omega (arith, w.many), omega (arith, w.many))

    pub too_wide : any count (λ i. ltb 65535 (get_or numbers (1 + 3 * i + 2) 0)) ≡ true → cannot "a plan's number is above 65,535" ≡ answer_to_programme numbers
    unfolding answer_to_programme
    too_wide e = rw (ne_eqb (length numbers) 0 whole.1, eq-eqb ((length numbers - 1) % 3) 0 whole.2, whole.0, e)

    -- what runs, by the programme as it is stored
    pub narrow-line : any count (λ i. ltb 65535 (get_or numbers (1 + 3 * i + 2) 0)) ≡ false
        → programme_line (plan_at (entries_of (stored_asked numbers)) (minute_asked numbers)) ≡ answer_to_programme numbers
    unfolding answer_to_programme
    narrow-line e =
        ap programme_line (stored_answer numbers (minute_asked numbers))
        ∙ rw (ne_eqb (length numbers) 0 whole.1, eq-eqb ((length numbers - 1) % 3) 0 whole.2, ap (λ n. any n (λ i. ltb 65535 (get_or numbers (1 + 3 * i + 2) 0))) whole.0 ∙ e)
