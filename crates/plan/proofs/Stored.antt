-- The plan as it is stored. Assumes nothing.
use Prim.Native.Nat.{ℕ, ◌+◌, ◌≤◌, ◌<◌}
use mathlib.Core.Path.{◌≡◌, refl, sym, ap, ◌∙◌}
use mathlib.Core.List.{List}
use mathlib.Core.Bool.{cond}
use native.Mathlib.Decide.{dec_lt}
use native.Mathlib.Omega.{arith}
use lib.ListN.{get_or, set, replicate}
use lib.Dec.{ltb}
use borrow.Author.Tests.{lt-ltb, le-ltb}
use Rattle.model.specs.Tables.{table}
use Rattle.model.specs.Plan as model
use Rattle.limits.specs.declared.Wanted.{Wanted}
use Rattle.limits.specs.Reading.{wanted_for, no_wanted, draft_for}
use Rattle.plan.specs.declared.Plan.{Plan}
use Rattle.plan.specs.Reading.{entry_for, no_entry, plan_for, stored_entry, stored_entries}
use Rattle.plan.specs.Reading.{wanted_of, widened, draft_of}
use Rattle.model.proofs.Tables.{get_d-table, get_d-table-past, table_same, set-table}

-- ---- sixteen entries, filled one by one

-- f 0, f 1, and so on as far as entry i, and d after them
unfoldable pub up_to : {A : Type 0} → (ℕ → A) → A → ℕ → List A
up_to f d i = table 16 (λ k. cond (ltb k i) (f k) d)

module _ {A : Type 0} (f : ℕ → A) (d : A) where
  pub none_yet : replicate 16 d ≡ up_to f d 0
  unfolding up_to
  none_yet = refl

  pub one_more : (i : ℕ) → i < 16 → set (up_to f d i) i (f i) ≡ up_to f d (i + 1)
  unfolding up_to
  one_more i l =
      ap (set (table 16 (at i)) i) (sym (rw (lt-ltb i (i + 1) (omega arith))))
      ∙ set-table 16 (at i) (at (i + 1)) i l (λ k lk differs. other k differs (dec_lt k i))
    where
      at : ℕ → ℕ → A
      at n k = cond (ltb k n) (f k) d

      other : (k : ℕ) → (k ≡ i → ⊥) → Dec (k < i) → at i k ≡ at (i + 1) k
      other k differs (yes h) = rw (lt-ltb k i h, lt-ltb k (i + 1) (omega arith))
      other k differs (no h) = rw (le-ltb k i (omega arith), le-ltb k (i + 1) (omega arith))

  pub all_there : up_to f d 16 ≡ table 16 f
  unfolding up_to
  all_there = table_same 16 (λ k. cond (ltb k 16) (f k) d) f (λ k l. rw (lt-ltb k 16 l))

pub all_read : (part : List ℕ) (n : ℕ) → up_to (λ k. stored_entry (model.entry_of part k)) no_entry n ≡ stored_entries (model.entries_of n part)
unfolding up_to stored_entries
all_read part n = table_same 16 _ _ (λ k l. go k (dec_lt k n))
  where
    go : (k : ℕ) → Dec (k < n) → cond (ltb k n) (stored_entry (model.entry_of part k)) no_entry ≡ stored_entry (get_or (model.entries_of n part) k model.no_entry)
    go k (yes h) = rw (lt-ltb k n h, get_d-table n (model.entry_of part) k model.no_entry h)
    go k (no h) = rw (le-ltb k n (omega arith), get_d-table-past n (model.entry_of part) k model.no_entry (omega arith))

-- a plan as it would be asked for is the same plan
pub drafted : (p : Plan) → p.count ≤ 16 → draft_for (draft_of p) ≡ plan_for p
unfolding widened
drafted p few =
    let widen : ℕ → Wanted = λ i. wanted_of (get_or p.entries i no_entry) in
    let entries = table_same p.count _ (λ i. entry_for (get_or p.entries i no_entry)) (λ i l. ap wanted_for (get_d-table 16 widen i no_wanted (omega arith))) in
    λ k. record { slots = p.slots; frames = p.frames; buffer = p.buffer; entries = entries k }
