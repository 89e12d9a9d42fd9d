-- Bytes stored at the start of a list, run after run, and the entries of a flow part so stored. Assumes nothing.
use Prim.Native.Nat.{ℕ, ◌+◌, ◌*◌, ◌≤◌, ◌<◌}
use mathlib.Core.Path.{◌≡◌, refl, sym, ap, ◌∙◌}
use mathlib.Core.List.{List, ◌∷◌, [], ◌++◌, flat_map}
use native.Mathlib.Nat.{add-zero}
use native.Mathlib.Omega.{arith}
use lib.ListN.{length, get_or, drop, length-append, length-drop}
use lib.Seq.{sets, sets-eq, length-sets, take-append_seam, drop-append-add, drop-drop}
use Rattle.limits.specs.declared.Wanted.{Wanted}
use Rattle.limits.specs.Reading.{wanted_for, no_wanted}
use Rattle.model.specs.Tables.{table}
use Rattle.model.specs.Plan.{Entry}
use Rattle.model.specs.WrittenPlan.{entry_bytes}
use Rattle.model.proofs.Tables.{length-table, table-append}
use Rattle.model.proofs.WrittenPlan.{part_length}
use Rattle.plan.specs.Writing.{begun, flow_part}

-- ---- runs of bytes

pub begun-length : (bytes before : List ℕ) → length bytes ≤ length before → length (begun bytes before) ≡ length before
begun-length bytes before fits = omega (arith, length-append bytes (drop (length bytes) before), length-drop (length bytes) before)

-- a run stored after what is begun
pub begun_more : (bytes more before : List ℕ) → length bytes + length more ≤ length before
    → sets (begun bytes before) (length bytes) more ≡ begun (bytes ++ more) before
begun_more bytes more before fits =
    let long : length bytes + length more ≤ length (begun bytes before) = omega (arith, begun-length bytes before (omega arith)) in
    let front = take-append_seam bytes (drop (length bytes) before) in
    let rest = drop-append-add bytes (drop (length bytes) before) (length more) ∙ drop-drop (length more) (length bytes) before
    ∙ ap (λ k. drop k before) (sym (length-append bytes more)) in
    sets-eq more (begun bytes before) (length bytes) long ∙ (λ k. front k ++ more ++ rest k)

-- ---- the entries

pub flow-length : (entries : List Wanted) (n : ℕ) → length (flow_part entries n) ≡ 4 * n
unfolding flow_part
flow-length entries n =
    part_length (table n (λ i. wanted_for (get_or entries i no_wanted))) ∙ ap (λ k. 4 * k) (length-table n (λ i. wanted_for (get_or entries i no_wanted)))

flat_append : (xs ys : List Entry) → flat_map entry_bytes (xs ++ ys) ≡ flat_map entry_bytes xs ++ flat_map entry_bytes ys
unfolding flat_map
flat_append [] ys = refl
flat_append (x ∷ xs) ys = ap (entry_bytes x ++◌) (flat_append xs ys)

pub flow-more : (entries : List Wanted) (n : ℕ) → flow_part entries (n + 1) ≡ flow_part entries n ++ entry_bytes (wanted_for (get_or entries n no_wanted))
unfolding flow_part flat_map
flow-more entries n =
    ap (flat_map entry_bytes) (table-append n 1 entry_at)
    ∙ flat_append (table n entry_at) (table 1 (λ k. entry_at (n + k)))
    ∙ ap (λ k. flat_map entry_bytes (table n entry_at) ++ entry_bytes (entry_at k)) (add-zero n)
  where
    entry_at : ℕ → Entry
    entry_at i = wanted_for (get_or entries i no_wanted)

-- the entries before entry i are stored
pub record StoredTo (entries : List Wanted) (n i : ℕ) (before after : List ℕ) : Type 0 where
  pub within : i ≤ n
  pub stored : after ≡ begun (flow_part entries i) before
  pub same_length : length after ≡ length before

pub none-stored : (entries : List Wanted) (n : ℕ) (before : List ℕ) → StoredTo entries n 0 before before
unfolding flow_part flat_map
none-stored entries n before = record { within = omega arith; stored = refl; same_length = refl }

pub one-more-stored : {entries : List Wanted} {n i : ℕ} {before middle : List ℕ} (after : List ℕ)
    → StoredTo entries n i before middle → i < n → 4 * n ≤ length before
    → after ≡ sets middle (4 * i) (entry_bytes (wanted_for (get_or entries i no_wanted)))
    → StoredTo entries n (i + 1) before after
one-more-stored {entries} {n} {i} {before} {middle} after to l room put =
    let bytes = flow_part entries i in
    let more = entry_bytes (wanted_for (get_or entries i no_wanted)) in
    let long : length bytes ≡ 4 * i = flow-length entries i in
    let place : sets middle (4 * i) more ≡ sets (begun bytes before) (length bytes) more = λ k. sets (to.stored k) (sym long k) more in
    record {
      within = omega arith;
      stored = put ∙ place ∙ begun_more bytes more before (omega arith) ∙ ap (λ b. begun b before) (sym (flow-more entries i));
      same_length = ap length put ∙ length-sets middle (4 * i) more ∙ to.same_length;
    }

pub all-stored : {entries : List Wanted} {n i : ℕ} {before after : List ℕ} → StoredTo entries n i before after → n ≤ i
    → after ≡ begun (flow_part entries n) before
all-stored {entries} {n} {i} {before} to l = let end : i ≡ n = omega (arith, to.within) in to.stored ∙ ap (λ k. begun (flow_part entries k) before) end
