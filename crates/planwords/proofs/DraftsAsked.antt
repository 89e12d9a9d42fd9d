-- The draft that numbers ask for. Assumes nothing.
use Prim.Native.Nat.{ℕ, ◌+◌, ◌*◌, ◌≤◌, ◌<◌}
use mathlib.Core.Path.{◌≡◌, refl, sym, ap, ◌∙◌}
use mathlib.Core.List.{List}
use mathlib.Core.Bool.{cond}
use native.Mathlib.Decide.{dec_lt}
use native.Mathlib.Omega.{arith}
use lib.ListN.{length, get_or, set, replicate, get_or-eq_default}
use lib.Dec.{ltb}
use borrow.Author.Tests.{lt-ltb, le-ltb}
use Rattle.model.specs.Tables.{table}
use Rattle.model.proofs.Tables.{get_d-table, table_same, set-table}
use Rattle.limits.specs.declared.Wanted.{Wanted}
use Rattle.limits.specs.Reading.{wanted_for, no_wanted, draft_for}
use Rattle.planwords.specs.Plans.{flows_asked, entry_asked, plan_asked}
use Rattle.planwords.specs.Drafts.{wanted_at, draft_asked}

-- ---- the entries, one by one

-- the entry of flow k, once those before flow i are taken
unfoldable pub up_to : List ℕ → ℕ → ℕ → Wanted
up_to numbers i k = cond (ltb k i) (wanted_at numbers k) no_wanted

pub record TakenTo (numbers : List ℕ) (all : List Wanted) (i : ℕ) : Type 0 where
  pub most : i ≤ 16
  pub entries : all ≡ table 16 (up_to numbers i)

pub none-taken : (numbers : List ℕ) → TakenTo numbers (replicate 16 no_wanted) 0
unfolding up_to
none-taken numbers = record { most = omega arith; entries = refl }

-- past the numbers there are only zeros
past : (numbers : List ℕ) (k : ℕ) → length numbers ≤ 3 + 4 * k → wanted_at numbers k ≡ no_wanted
past numbers k h =
    let zero-at : (j : ℕ) → 3 + 4 * k ≤ j → get_or numbers j 0 ≡ 0 = λ j l. get_or-eq_default numbers 0 {n = j} (omega arith) in
    rw (
      zero-at (3 + 4 * k) (omega arith),
      zero-at (3 + 4 * k + 1) (omega arith),
      zero-at (3 + 4 * k + 2) (omega arith),
      zero-at (3 + 4 * k + 3) (omega arith),
    )

module _ {numbers : List ℕ} {all : List Wanted} {i : ℕ} (s : TakenTo numbers all i) where
  pub one-taken : {w : Wanted} → i < 16 → w ≡ wanted_at numbers i → TakenTo numbers (set all i w) (i + 1)
  unfolding up_to
  one-taken {w} h e = record {
    most = omega arith;
    entries =
        (λ j. set (s.entries j) i (e j)) ∙ ap (set (table 16 (up_to numbers i)) i) (sym (rw (lt-ltb i (i + 1) (omega arith))))
        ∙ set-table 16 (up_to numbers i) (up_to numbers (i + 1)) i h other;
  }
    where
      other : (k : ℕ) → k < 16 → (k ≡ i → ⊥) → up_to numbers i k ≡ up_to numbers (i + 1) k
      other k l d = go (dec_lt k i)
        where
          go : Dec (k < i) → up_to numbers i k ≡ up_to numbers (i + 1) k
          go (yes b) = rw (lt-ltb k i b, lt-ltb k (i + 1) (omega arith))
          go (no b) = rw (le-ltb k i (omega arith), le-ltb k (i + 1) (omega arith))

  -- all flows are taken, or sixteen
  pub all-taken : (flows : ℕ) → length numbers ≡ 3 + 4 * flows → (i < 16 → flows ≤ i) → all ≡ table 16 (wanted_at numbers)
  unfolding up_to
  all-taken flows long ended = s.entries ∙ table_same 16 (up_to numbers i) (wanted_at numbers) each
    where
      each : (k : ℕ) → k < 16 → up_to numbers i k ≡ wanted_at numbers k
      each k l = go (dec_lt k i)
        where
          go : Dec (k < i) → up_to numbers i k ≡ wanted_at numbers k
          go (yes b) = rw (lt-ltb k i b)
          go (no b) =
              let over : flows ≤ i = ended (omega (arith, s.most)) in
              ap (λ t. cond t (wanted_at numbers k) no_wanted) (le-ltb k i (omega arith)) ∙ sym (past numbers k (omega arith))

-- ---- the plan

-- up to sixteen flows the draft is the plan that is asked for
pub draft-is : (numbers : List ℕ) → flows_asked numbers ≤ 16 → draft_for (draft_asked numbers) ≡ plan_asked numbers
unfolding draft_asked
draft-is numbers few =
    let entries = table_same (flows_asked numbers) _ (entry_asked numbers)
    (λ i l. ap wanted_for (get_d-table 16 (wanted_at numbers) i no_wanted (omega arith))) in
    λ k. record { slots = get_or numbers 0 0; frames = get_or numbers 1 0; buffer = get_or numbers 2 0; entries = entries k }

-- it has as many flows as are asked for, whatever their number
pub draft-flows : (numbers : List ℕ) → (draft_asked numbers).count ≡ flows_asked numbers
unfolding draft_asked
draft-flows numbers = refl
