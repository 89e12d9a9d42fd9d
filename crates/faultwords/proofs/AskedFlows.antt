-- Flows and numbers of the plan that is asked about. Assumes nothing.
use Prim.Native.Nat.{ℕ, zero, suc, ◌+◌, ◌*◌, ◌≤◌, ◌<◌, min}
use mathlib.Core.Path.{◌≡◌, refl, sym, ap, ◌∙◌}
use mathlib.Core.List.{List, ◌++◌, flat_map}
use mathlib.Core.Bool.{false}
use native.Mathlib.Omega.{arith}
use lib.ListN.{length, get_or}
use borrow.Author.Tests.{ltb-false}
use Rattle.model.specs.Tables.{table, sum}
use Rattle.model.specs.Plan.{Entry, flow_count, entry, no_entry, same_pair}
use Rattle.model.proofs.Tables.{length-table, get_d-table}
use Rattle.model.proofs.Tests.{any_none}
use Rattle.limits.proofs.Tests.{sum_more}
use Rattle.planwords.specs.Plans.{flows_asked, entry_asked, plan_asked}
use Rattle.faults.specs.Told.{each_below}
use Rattle.faultwords.specs.PlanFaults.{flows_seen, count_faults, frame_faults, entry_faults, alike_faults, sum_faults, faults_of}
use Rattle.faultwords.specs.FaultsWord.{some_long}

pub count_is : (numbers : List ℕ) → flow_count (plan_asked numbers) ≡ flows_asked numbers
count_is numbers = length-table (flows_asked numbers) (entry_asked numbers)

pub entry_is : (numbers : List ℕ) (i : ℕ) → i < flows_asked numbers → entry (plan_asked numbers) i ≡ entry_asked numbers i
entry_is numbers i h = get_d-table (flows_asked numbers) (entry_asked numbers) i no_entry h

-- a number of a line has at most nine digits
pub number-most : (numbers : List ℕ) → some_long numbers ≡ false → (i : ℕ) → i < length numbers → get_or numbers i 0 ≤ 999999999
number-most numbers e i h = ltb-false 999999999 (get_or numbers i 0) (any_none (length numbers) _ e i h)

pub pair_is : (numbers : List ℕ) (i j : ℕ) → i < flows_asked numbers → j < flows_asked numbers
    → same_pair (entry_asked numbers i) (entry_asked numbers j) ≡ same_pair (entry (plan_asked numbers) i) (entry (plan_asked numbers) j)
pair_is numbers i j h k = λ t. same_pair (sym (entry_is numbers i h) t) (sym (entry_is numbers j k) t)

-- ---- sums of such numbers

pub record SummedTo (f : ℕ → ℕ) (flows total i : ℕ) : Type 0 where
  pub within : i ≤ flows
  pub is : total ≡ sum i f
  pub most : total ≤ 999999999 * i

pub none-summed : (f : ℕ → ℕ) (flows : ℕ) → SummedTo f flows 0 0
unfolding sum
none-summed f flows = record { within = omega arith; is = refl; most = omega arith }

pub one-summed : {f : ℕ → ℕ} {flows total i : ℕ} → SummedTo f flows total i → i < flows → f i ≤ 999999999 → SummedTo f flows (total + f i) (i + 1)
one-summed {f} {flows} {total} {i} s h small = record {
  within = omega arith;
  is = omega (arith, s.is, sum_more f i);
  most = omega (arith, s.most);
}

-- ---- all that is told, flow by flow

flat-same : (n : ℕ) (e : ℕ → ℕ) (f g : ℕ → List ℕ) → ((k : ℕ) → k < n → f (e k) ≡ g (e k)) → flat_map f (table n e) ≡ flat_map g (table n e)
unfolding flat_map
flat-same zero e f g same = refl
flat-same (suc n) e f g same = λ t. same 0 (omega arith) t ++ flat-same n (λ k. e (suc k)) f g (λ k l. same (suc k) (omega arith)) t

sum_same : (n : ℕ) (f g : ℕ → ℕ) → ((k : ℕ) → k < n → f k ≡ g k) → sum n f ≡ sum n g
unfolding sum
sum_same zero f g same = refl
sum_same (suc n) f g same = omega (arith, same n (omega arith), sum_same n f g (λ k l. same k (omega arith)))

module _ (numbers : List ℕ) (flows : ℕ) (seen : flows ≡ min (flows_asked numbers) 16) where
  abbrev F : ℕ
  F = get_or numbers 0 0

  abbrev N : ℕ
  N = get_or numbers 2 0

  at_entry : (i : ℕ) → i < flows → entry_asked numbers i ≡ entry (plan_asked numbers) i
  at_entry i h = sym (entry_is numbers i (omega (arith, seen)))

  all_seen : flows ≡ flows_seen (plan_asked numbers)
  all_seen = seen ∙ ap (λ n. min n 16) (sym (count_is numbers))

  sums-are : (f : Entry → ℕ) → sum flows (λ i. f (entry_asked numbers i)) ≡ sum (flows_seen (plan_asked numbers)) (λ i. f (entry (plan_asked numbers) i))
  sums-are f = sum_same flows _ _ (λ i h. ap f (at_entry i h)) ∙ ap (λ n. sum n (λ i. f (entry (plan_asked numbers) i))) all_seen

  entries-are : each_below flows (λ i. entry_faults F (entry_asked numbers i) i) ≡ each_below (flows_seen (plan_asked numbers)) (λ i. entry_faults F (entry (plan_asked numbers) i) i)
  entries-are =
      flat-same flows (λ i. i) _ _ (λ i h. ap (λ e. entry_faults F e i) (at_entry i h))
      ∙ ap (λ n. each_below n (λ i. entry_faults F (entry (plan_asked numbers) i) i)) all_seen

  pub all_found :
      count_faults (flows_asked numbers) ++ frame_faults F (get_or numbers 1 0) N ++ each_below flows (λ i. entry_faults F (entry_asked numbers i) i)
      ++ each_below flows (alike_faults (plan_asked numbers))
      ++ sum_faults F N (sum flows (λ i. (entry_asked numbers i).share)) (sum flows (λ i. (entry_asked numbers i).cells))
      ≡ faults_of (plan_asked numbers)
  unfolding faults_of
  all_found = λ t.
      count_faults (sym (count_is numbers) t) ++ frame_faults F (get_or numbers 1 0) N ++ entries-are t
      ++ each_below (all_seen t) (alike_faults (plan_asked numbers))
      ++ sum_faults F N (sums-are (λ e. e.share) t) (sums-are (λ e. e.cells) t)
