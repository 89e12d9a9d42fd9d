-- All share lists: those that are accepted and those that are refused. Assumes nothing.
use Prim.Native.Nat.{ℕ, zero, suc, ◌+◌, ◌*◌, ◌^◌, ◌≤◌}
use mathlib.Core.Path.{◌≡◌, refl, sym, ap, ◌∙◌}
use mathlib.Core.List.{List, ◌∷◌, []}
use mathlib.Core.Bool.{Bool, true, false, not}
use native.Mathlib.Nat.{pow-zero, pow-succ', pow-le-pow_left, pow-le-pow_right}
use native.Mathlib.Omega.{arith}
use lib.ListN.{length}
use lib.Dec.{ltb}
use Rattle.model.specs.Tables.{bit, tally}
use Rattle.model.proofs.Tallies.{sum-const}
use Rattle.shares.specs.ShareLists.{share_lists, total}
use Rattle.shares.specs.Counts.{accepted_lists, refused_lists}
use Rattle.shares.proofs.FirstShare.{by_first}

tally-all : (lists : List (List ℕ)) → tally (λ l. true) lists ≡ length lists
unfolding tally
tally-all [] = refl
tally-all (l ∷ lists) = omega (arith, tally-all lists)

either-bit : (b : Bool) → bit (not b) + bit b ≡ 1
either-bit true = refl
either-bit false = refl

-- each list passes a test or does not
tally-both : (p : List ℕ → Bool) (lists : List (List ℕ)) → tally (λ l. not (p l)) lists + tally p lists ≡ length lists
unfolding tally
tally-both p [] = refl
tally-both p (l ∷ lists) = omega (arith, tally-both p lists, either-bit (p l))

lists-by-first : (F n : ℕ) → length (share_lists F (suc n)) ≡ F * length (share_lists F n)
lists-by-first F n =
    sym (tally-all (share_lists F (suc n))) ∙ by_first (λ l. true) F n ∙ sum-const F (tally (λ l. true) (share_lists F n))
    ∙ ap (F *◌) (tally-all (share_lists F n))

-- F to the power n lists of n shares
pub lists-many : (F n : ℕ) → length (share_lists F n) ≡ F ^ n
unfolding share_lists
lists-many F zero = sym (pow-zero F)
lists-many F (suc n) = lists-by-first F n ∙ ap (F *◌) (lists-many F n) ∙ sym (pow-succ' F n)

-- the two counts add to F to the power n
pub counts-add : (F n : ℕ) → accepted_lists F n + refused_lists F n ≡ F ^ n
unfolding accepted_lists refused_lists
counts-add F n = tally-both (λ shares. ltb F (total shares)) (share_lists F n) ∙ lists-many F n

-- ---- no count is large

pub most-lists : (F n : ℕ) → F ≤ 16 → n ≤ 8 → F ^ n ≤ 4294967296
most-lists F n h_f hn = omega (arith, pow-le-pow_left h_f n, pow-le-pow_right {n = 16} (omega arith) hn)

pub accepted-most : (F n : ℕ) → F ≤ 16 → n ≤ 8 → accepted_lists F n ≤ 4294967296
accepted-most F n h_f hn = omega (arith, counts-add F n, most-lists F n h_f hn)
