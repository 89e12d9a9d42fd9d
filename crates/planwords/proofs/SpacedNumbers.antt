-- Numbers that are put one after another, each after a space. Assumes nothing.
use Prim.Native.Nat.{ℕ, ◌+◌, ◌*◌, ◌≤◌}
use mathlib.Core.Path.{◌≡◌, refl, sym, ap, ◌∙◌}
use mathlib.Core.List.{List, ◌∷◌, [], ◌++◌, flat_map, append-nil, append_assoc}
use native.Mathlib.Numerals.{add-one}
use native.Mathlib.Omega.{arith}
use lib.ListN.{get_or}
use Rattle.model.specs.Tables.{table}
use Rattle.model.specs.Listing.{text}
use Rattle.model.specs.Plan as model
use Rattle.plan.specs.declared.Entry.{Entry}
use Rattle.plan.specs.Reading.{entry_for, no_entry}
use Rattle.calls.specs.Lines.{Puts}
use Rattle.calls.proofs.Stores.{puts_none, puts_then, puts-same}
use Rattle.tokens.proofs.BytesRead.{table_more}
use Rattle.replies.specs.Lines.{spaced}
use Rattle.planwords.specs.Reads.{entry_numbers, plan_numbers, question}

regroup : (a b c d : List ℕ) → a ++ b ++ c ++ d ≡ a ++ (b ++ (c ++ (d ++ [])))
regroup a b c d = simp (append_assoc, append-nil)

regroup-after : (w a b c d e : List ℕ) → w ++ a ++ b ++ c ++ d ++ e ≡ w ++ (a ++ (b ++ (c ++ d))) ++ e
regroup-after w a b c d e = simp append_assoc

pub four-spaced : (a b c d : ℕ) → spaced a ++ spaced b ++ spaced c ++ spaced d ≡ flat_map spaced (a ∷ b ∷ c ∷ d ∷ [])
unfolding flat_map
four-spaced a b c d = regroup (spaced a) (spaced b) (spaced c) (spaced d)

flat_append : {A : Type 0} (f : A → List ℕ) (xs ys : List A) → flat_map f (xs ++ ys) ≡ flat_map f xs ++ flat_map f ys
unfolding flat_map
flat_append f [] ys = refl
flat_append f (x ∷ xs) ys = ap (f x ++◌) (flat_append f xs ys) ∙ sym (append_assoc (f x) (flat_map f xs) (flat_map f ys))

-- ---- entries

-- the entries as far as entry i
abbrev pub first_entries : List Entry → ℕ → List model.Entry
first_entries entries i = table i (λ k. entry_for (get_or entries k no_entry))

pub record EntriesTo (entries : List Entry) (before after : List ℕ) (at next i : ℕ) : Type 0 where
  pub puts : Puts (flat_map spaced (flat_map entry_numbers (first_entries entries i))) before after at next
  pub most : next ≤ at + 84 * i

pub no-entries : (entries : List Entry) (out : List ℕ) (at : ℕ) → EntriesTo entries out out at at 0
unfolding flat_map
no-entries entries out at = record { puts = puts_none out at; most = omega arith }

module _ {entries : List Entry} {before after : List ℕ} {at next i : ℕ} (s : EntriesTo entries before after at next i) where
  abbrev here : model.Entry
  here = entry_for (get_or entries i no_entry)

  -- the entries before entry i, and entry i
  entries-more : first_entries entries i ++ (here ∷ []) ≡ first_entries entries (i + 1)
  entries-more = sym (table_more i (λ k. entry_for (get_or entries k no_entry))) ∙ ap (first_entries entries) (sym (add-one i))

  numbers_more : flat_map entry_numbers (first_entries entries i) ++ entry_numbers here ≡ flat_map entry_numbers (first_entries entries (i + 1))
  unfolding flat_map
  numbers_more = sym (flat_append entry_numbers (first_entries entries i) (here ∷ [])) ∙ ap (flat_map entry_numbers) entries-more

  one_more : flat_map spaced (flat_map entry_numbers (first_entries entries i)) ++ flat_map spaced (entry_numbers here)
      ≡ flat_map spaced (flat_map entry_numbers (first_entries entries (i + 1)))
  one_more = sym (flat_append spaced (flat_map entry_numbers (first_entries entries i)) (entry_numbers here)) ∙ ap (flat_map spaced) numbers_more

  pub one_entry : {after' : List ℕ} {next' : ℕ} → Puts (flat_map spaced (entry_numbers here)) after after' next next'
      → next' ≤ next + 84 → EntriesTo entries before after' at next' (i + 1)
  one_entry p m = record { puts = puts-same one_more (puts_then s.puts p); most = omega (arith, s.most) }

-- ---- the question

-- the word, the header's numbers and the entries' make the question
pub question-is : (P : model.Plan)
    → text "plan" ++ spaced P.slots ++ spaced P.frames ++ spaced P.buffer ++ flat_map spaced (flat_map entry_numbers P.entries) ++ text "\n" ≡ question P
unfolding question plan_numbers flat_map
question-is P =
    regroup-after (text "plan") (spaced P.slots) (spaced P.frames) (spaced P.buffer) (flat_map spaced (flat_map entry_numbers P.entries)) (text "\n")
