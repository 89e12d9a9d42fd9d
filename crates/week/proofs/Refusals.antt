-- The tests of a stored programme are those of its entries. Assumes nothing.
use Prim.Native.Nat.{ℕ, zero, suc, ◌≤◌, ◌<◌}
use mathlib.Core.Path.{◌≡◌, refl, ap, ◌∙◌}
use mathlib.Core.List.{List, [], ◌∷◌}
use mathlib.Core.Bool.{Bool, true, false, not, ◌||◌, cond}
use native.Mathlib.Omega.{arith}
use lib.ListN.{length, take}
use Rattle.std.specs.Prelude.{map}
use Rattle.std.specs.List.{list_any}
use Rattle.std.proofs.lemmas.List.{length-map, get_or-map, get_or-take}
use lib.Dec.{ltb}
use borrow.Author.Tests.{lt-ltb, le-ltb, not-false}
use Rattle.model.specs.Tables.{table, any}
use Rattle.model.specs.Refusals.{first_of}
use Rattle.model.specs.Calls.{refused}
use Rattle.model.proofs.Tests.{or-true, any_none, any_same}
use Rattle.week.specs.declared.Entry.{Entry as CodeEntry}
use Rattle.week.specs.declared.Programme.{Programme}
use Rattle.week.specs.Week.{Entry, week, no_entry, entry, keeps_limits, share_minute, some_breaks_limits, some_shared, refusal, plan_at}
use Rattle.week.specs.Reading.{empty_entry, entry_for, stored, entries_of, AllKeepLimits}
use Rattle.week.proofs.OneEntry.{keeps-limits}
use Rattle.week.proofs.EntryTests.{some_is}

-- ---- the entries of a stored programme, as a list

table-take : (n : ℕ) (entries : List CodeEntry) → n ≤ length entries → table n (stored entries) ≡ map entry_for (take n entries)
table-take zero entries h = refl
table-take (suc n) [] h = absurd (omega arith)
table-take (suc n) (e ∷ entries) h = ap (entry_for e ∷◌) (table-take n entries (omega arith))

pub entries-are : (p : Programme) → p.count ≤ length p.entries → entries_of p ≡ map entry_for (take p.count p.entries)
entries-are p h = table-take p.count p.entries h

pub stored-is : (entries : List CodeEntry) (i : ℕ) → i < length entries → entry (map entry_for entries) i ≡ stored entries i
stored-is entries i h = get_or-map entry_for entries i empty_entry no_entry h

pub stored-before : (entries : List CodeEntry) (n i : ℕ) → i < n → stored (take n entries) i ≡ stored entries i
stored-before entries n i h = ap entry_for (get_or-take n entries i empty_entry h)

-- ---- the outcomes of the tests

list_any-map : {A B : Type 0} (f : B → Bool) (g : A → B) (xs : List A) → list_any f (map g xs) ≡ list_any (λ x. f (g x)) xs
list_any-map f g [] = refl
list_any-map f g (x ∷ xs) = ap (f (g x) ||◌) (list_any-map f g xs)

pub breaks-is : (entries : List CodeEntry) → some_breaks_limits (map entry_for entries) ≡ list_any (λ e. not (keeps_limits (entry_for e))) entries
breaks-is entries = some_is (λ e. not (keeps_limits e)) (map entry_for entries) ∙ list_any-map (λ e. not (keeps_limits e)) entry_for entries

-- some entry shares a minute with one at a lower place
pub shared-is : (entries : List CodeEntry)
    → some_shared (map entry_for entries) ≡ any (length entries) (λ i. any i (λ j. share_minute (stored entries j) (stored entries i)))
shared-is entries =
    ap (λ n. any n (λ i. any i (λ j. share_minute (entry (map entry_for entries) j) (entry (map entry_for entries) i)))) (length-map entries entry_for)
    ∙ any_same (length entries) _ _ (λ i h. any_same i _ _ (λ j k. λ t. share_minute (stored-is entries j (omega arith) t) (stored-is entries i h t)))

-- what is known once no entry breaks its limits
pub all-keep-limits : (entries : List CodeEntry) → some_breaks_limits (map entry_for entries) ≡ false → AllKeepLimits entries (length entries)
all-keep-limits entries e = record {
  each = λ i h.
      let there : i < length (map entry_for entries) = omega (arith, length-map entries entry_for) in
      let kept = keeps-limits (entry (map entry_for entries) i) (not-false _ (any_none (length (map entry_for entries)) _ e i there)) in
      rw (stored-is entries i h) at kept;
}

-- ---- the number, by the first test that applies

module _ (entries : List Entry) (minute : ℕ) where
  gives-28 : some_breaks_limits entries || ltb 64 (length entries) || not (ltb minute week) ≡ true → 28 ≡ refusal entries minute
  unfolding refusal first_of
  gives-28 e = rw e

  pub too_many : 64 < length entries → 28 ≡ refusal entries minute
  too_many h = gives-28 (rw (or-true (some_breaks_limits entries) (ltb 64 (length entries)) (lt-ltb 64 (length entries) h)))

  pub no-minute : week ≤ minute → 28 ≡ refusal entries minute
  no-minute h = gives-28 (or-true (some_breaks_limits entries || ltb 64 (length entries)) (not (ltb minute week)) (ap not (le-ltb minute week h)))

  pub entry-breaks : some_breaks_limits entries ≡ true → 28 ≡ refusal entries minute
  entry-breaks e = gives-28 (rw e)

  -- 29 or nothing, by the last test
  pub passed-28 : length entries ≤ 64 → minute < week → some_breaks_limits entries ≡ false → (b : Bool) → some_shared entries ≡ b → cond b 29 0 ≡ refusal entries minute
  unfolding refusal first_of
  passed-28 few h e b q = rw (e, le-ltb 64 (length entries) few, lt-ltb minute week h, q)

-- more than 64 entries, stored or not
pub many-refused : (entries : List Entry) (minute : ℕ) → 64 < length entries → plan_at entries minute ≡ refused 28
unfolding plan_at refusal first_of
many-refused entries minute h = rw (or-true (some_breaks_limits entries) (ltb 64 (length entries)) (lt-ltb 64 (length entries) h))
