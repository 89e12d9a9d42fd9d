-- The enumeration has each share list exactly once, and no other list. Assumes nothing.
use Prim.Native.Nat.{ℕ, zero, suc, ◌≤◌, ◌<◌}
use mathlib.Core.Path.{◌≡◌, refl, ap, ap₂, ◌∙◌}
use mathlib.Core.List.{List, ◌∷◌, []}
use mathlib.Core.Bool.{true, ◌&&◌}
use native.Mathlib.Decide.{ℕ_discrete}
use native.Mathlib.Omega.{arith}
use lib.ListN.{get_or}
use lib.Dec.{eqb}
use borrow.Author.Tests.{eqb-true, eq-eqb, ne_eqb}
use Rattle.model.specs.Tables.{sum, tally}
use Rattle.model.proofs.Tests.{and-true}
use Rattle.shares.specs.ShareLists.{share_lists}
use Rattle.shares.specs.Enumerated.{ShareList, same_list, times, EachOnce}
use Rattle.shares.proofs.Sums.{sum-none, sum_one, Term, sum-some}
use Rattle.shares.proofs.FirstShare.{by_first, tally-no}

-- ---- the test of equal lists

pub same_true : (xs ys : List ℕ) → same_list xs ys ≡ true → xs ≡ ys
unfolding same_list
same_true [] [] e = refl
same_true [] (y ∷ ys) e = let z : ◌≡◌ {A = ℕ} 0 1 = cc in absurd (omega arith)
same_true (x ∷ xs) [] e = let z : ◌≡◌ {A = ℕ} 0 1 = cc in absurd (omega arith)
same_true (x ∷ xs) (y ∷ ys) e =
    let both = and-true (eqb x y) (same_list xs ys) e in
    ap₂ ◌∷◌ (eqb-true x y both.0) (same_true xs ys both.1)

pub same_self : (xs : List ℕ) → same_list xs xs ≡ true
unfolding same_list
same_self [] = refl
same_self (x ∷ xs) = rw (eq-eqb x x refl) (same_self xs)

-- ---- a share more in front

longer : {F n share : ℕ} {shares : List ℕ} → 1 ≤ share → share ≤ F → ShareList F n shares → ShareList F (suc n) (share ∷ shares)
longer {F} {n} {share} {shares} one most h = record {
  many = ap suc h.many;
  some_slot = low;
  slots_most = high;
}
  where
    low : (i : ℕ) → i < suc n → 1 ≤ get_or (share ∷ shares) i 0
    low zero l = one
    low (suc i) l = h.some_slot i (omega arith)

    high : (i : ℕ) → i < suc n → get_or (share ∷ shares) i 0 ≤ F
    high zero l = most
    high (suc i) l = h.slots_most i (omega arith)

shorter : {F n share : ℕ} {shares : List ℕ} → ShareList F (suc n) (share ∷ shares) → ShareList F n shares
shorter h = record {
  many = omega (arith, h.many);
  some_slot = λ i l. h.some_slot (suc i) (omega arith);
  slots_most = λ i l. h.slots_most (suc i) (omega arith);
}

-- ---- how many times a list stands there, by its first share

-- among the lists whose first share is this one
in-part : (F n : ℕ) (x : ℕ) (xs : List ℕ) (k : ℕ) → ℕ
in-part F n x xs k = tally (λ shares. eqb x (suc k) && same_list xs shares) (share_lists F n)

module _ (F n x : ℕ) (xs : List ℕ) where
  times-parts : times (x ∷ xs) (share_lists F (suc n)) ≡ sum F (in-part F n x xs)
  unfolding same_list in-part
  times-parts = by_first (same_list (x ∷ xs)) F n

  own-part : (k : ℕ) → x ≡ suc k → in-part F n x xs k ≡ times xs (share_lists F n)
  unfolding in-part
  own-part k e = let same = eq-eqb x (suc k) e in λ i. tally (λ shares. same i && same_list xs shares) (share_lists F n)

  other-part : (k : ℕ) → (x ≡ suc k → ⊥) → in-part F n x xs k ≡ 0
  unfolding in-part
  other-part k e =
      let differ = ne_eqb x (suc k) e in
      (λ i. tally (λ shares. differ i && same_list xs shares) (share_lists F n)) ∙ tally-no (share_lists F n)

none-empty : (F n : ℕ) → times [] (share_lists F (suc n)) ≡ 0
unfolding same_list
none-empty F n = by_first (same_list []) F n ∙ sum-none F _ (λ k l. tally-no (share_lists F n))

-- ---- the enumeration

listed : (F n : ℕ) (shares : List ℕ) → ShareList F n shares → times shares (share_lists F n) ≡ 1
unfolding share_lists same_list tally
listed F zero [] h = refl
listed F zero (x ∷ xs) h = absurd (omega (arith, h.many))
listed F (suc n) [] h = absurd (omega (arith, h.many))
listed F (suc n) (zero ∷ xs) h = absurd (omega (arith, h.some_slot 0 (omega arith)))
listed F (suc n) (suc k ∷ xs) h =
    times-parts F n (suc k) xs
    ∙ sum_one F (in-part F n (suc k) xs) k (omega (arith, h.slots_most 0 (omega arith))) (λ j d. other-part F n (suc k) xs j (λ e. d (omega arith)))
    ∙ own-part F n (suc k) xs k refl
    ∙ listed F n xs (shorter h)

no_other : (F n : ℕ) (shares : List ℕ) → 0 < times shares (share_lists F n) → ShareList F n shares
unfolding share_lists same_list tally
no_other F zero [] h = record { many = refl; some_slot = λ i l. absurd (omega arith); slots_most = λ i l. absurd (omega arith) }
no_other F zero (x ∷ xs) h = absurd (omega arith)
no_other F (suc n) [] h = absurd (omega (arith, none-empty F n))
no_other F (suc n) (x ∷ xs) h =
    let t = sum-some F (in-part F n x xs) (omega (arith, times-parts F n x xs)) in
    go t (no_other F n xs) (ℕ_discrete x (suc t.place))
  where
    go : (t : Term F (in-part F n x xs)) → (0 < times xs (share_lists F n) → ShareList F n xs) → Dec (x ≡ suc t.place) → ShareList F (suc n) (x ∷ xs)
    go t fewer (yes e) = longer (omega arith) (omega (arith, t.below)) (fewer (omega (arith, own-part F n x xs t.place e, t.positive)))
    go t fewer (no d) = absurd (omega (arith, other-part F n x xs t.place d, t.positive))

pub each-once : (F n : ℕ) → EachOnce F n (share_lists F n)
each-once F n = record { once = listed F n; no_other = no_other F n }
