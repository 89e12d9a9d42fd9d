-- The count, flow by flow, on the slots still left. Assumes nothing.
use Prim.Native.Nat.{ℕ, zero, suc, ◌+◌, ◌-◌, ◌≤◌, ◌<◌}
use mathlib.Core.Path.{◌≡◌, refl, sym, ap, ◌∙◌}
use mathlib.Core.List.{List, ◌∷◌}
use mathlib.Core.Bool.{Bool, false, not}
use native.Mathlib.Omega.{arith}
use lib.Dec.{ltb}
use borrow.Author.Tests.{ltb-true, lt-ltb, le-ltb}
use Rattle.model.specs.Tables.{sum, tally}
use Rattle.model.proofs.Tests.{same_truth}
use Rattle.shares.specs.ShareLists.{share_lists, total}
use Rattle.shares.specs.Counts.{accepted_lists}
use Rattle.shares.proofs.Sums.{sum_same, sum_first, sum-cut}
use Rattle.shares.proofs.FirstShare.{tally-no, by_first, total_first}

-- whether shares fit into the slots left
fits : (left : ℕ) → List ℕ → Bool
fits left shares = not (ltb left (total shares))

-- how many of the lists fit into the slots left
fitting : (F left n : ℕ) → ℕ
fitting F left n = tally (fits left) (share_lists F n)

-- a first share takes its slots
takes : (left k : ℕ) → k < left → (shares : List ℕ) → fits left (suc k ∷ shares) ≡ fits (left - suc k) shares
unfolding fits
takes left k l shares =
    let all = total (suc k ∷ shares) in
    let others = total shares in
    ap not
    (same_truth (ltb left all) (ltb (left - suc k) others)
    (λ e. lt-ltb (left - suc k) others (omega (arith, ltb-true left all e, total_first (suc k) shares)))
    (λ e. lt-ltb left all (omega (arith, ltb-true (left - suc k) others e, total_first (suc k) shares))))

-- a first share that is more than is left
exceeds : (left k : ℕ) → left ≤ k → (shares : List ℕ) → fits left (suc k ∷ shares) ≡ false
unfolding fits
exceeds left k l shares = ap not (lt-ltb left (total (suc k ∷ shares)) (omega (arith, total_first (suc k) shares)))

first-share : (F left n : ℕ) → left ≤ F → fitting F left (suc n) ≡ sum left (λ k. fitting F (left - suc k) n)
unfolding fitting
first-share F left n l =
    by_first (fits left) F n
    ∙ sum-cut left F _ l (λ k m. (λ i. tally (λ shares. exceeds left k m shares i) (share_lists F n)) ∙ tally-no (share_lists F n))
    ∙ sum_same left _ _ (λ k m i. tally (λ shares. takes left k m shares i) (share_lists F n))

-- what is left is a frame of its own
own-frame : (F left n : ℕ) → left ≤ F → fitting F left n ≡ accepted_lists left n
unfolding fitting accepted_lists fits share_lists tally
own-frame F left zero l = refl
own-frame F left (suc n) l =
    first-share F left n l
    ∙ sum_same left _ _ (λ k m. own-frame F (left - suc k) n (omega arith) ∙ sym (own-frame left (left - suc k) n (omega arith)))
    ∙ sym (first-share left left n (omega arith))

by_slots : (F n : ℕ) → accepted_lists F (suc n) ≡ sum F (λ k. accepted_lists (F - suc k) n)
by_slots F n =
    sym (own-frame F F (suc n) (omega arith)) ∙ first-share F F n (omega arith) ∙ sum_same F _ _ (λ k m. own-frame F (F - suc k) n (omega arith))

-- ---- the laws of the count

pub no-flows : (F : ℕ) → accepted_lists F 0 ≡ 1
unfolding accepted_lists share_lists total sum tally
no-flows F = rw (le-ltb F 0 (omega arith))

pub no-slots : (n : ℕ) → accepted_lists 0 (suc n) ≡ 0
unfolding sum
no-slots n = by_slots 0 n

-- with one slot more: as many as fit without the slot, and those whose first share is 1, which leaves F slots for the rest
pub one-slot-more : (F n : ℕ) → accepted_lists (suc F) (suc n) ≡ accepted_lists F (suc n) + accepted_lists F n
one-slot-more F n =
    let whole : F - 0 ≡ F = omega arith in
    by_slots (suc F) n
    ∙ sum_same (suc F) _ (λ k. accepted_lists (F - k) n) (λ k m. ap (λ left. accepted_lists left n) (omega arith))
    ∙ sum_first F (λ k. accepted_lists (F - k) n)
    ∙ omega (arith, by_slots F n, ap (λ left. accepted_lists left n) whole)
