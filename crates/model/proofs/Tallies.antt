-- Sums, and tallies of the entries of a list that pass a test. Assumes nothing.
use Prim.Native.Nat.{ℕ, zero, suc, ◌+◌, ◌*◌, ◌≤◌, ◌<◌}
use mathlib.Core.Path.{◌≡◌, refl, sym, ap, ◌∙◌}
use mathlib.Core.List.{List, [], ◌∷◌, ◌++◌}
use mathlib.Core.Bool.{Bool, true, false}
use native.Mathlib.Decide.{dec_lt}
use native.Mathlib.Omega.{arith}
use Rattle.model.specs.Tables.{sum, bit, tally}

-- ---- sums

pub sum-add : (m : ℕ) (f g : ℕ → ℕ) → sum m (λ j. f j + g j) ≡ sum m f + sum m g
unfolding sum
sum-add zero f g = refl
sum-add (suc m) f g = omega (arith, sum-add m f g)

pub sum-le : (m : ℕ) (f g : ℕ → ℕ) → ((j : ℕ) → j < m → f j ≤ g j) → sum m f ≤ sum m g
unfolding sum
sum-le zero f g h = omega arith
sum-le (suc m) f g h = omega (arith, h m (omega arith), sum-le m f g (λ j l. h j (omega arith)))

pub sum-const : (m c : ℕ) → sum m (λ j. c) ≡ m * c
unfolding sum
sum-const zero c = omega arith
sum-const (suc m) c = omega (arith, sum-const m c)

-- a sum in which term i falls short of its bound
pub sum_lt : (m : ℕ) (f g : ℕ → ℕ) (i : ℕ) → i < m → ((j : ℕ) → j < m → f j ≤ g j) → f i < g i → sum m f < sum m g
unfolding sum
sum_lt zero f g i l h s = absurd (omega arith)
sum_lt (suc m) f g i l h s = go (λ l'. sum_lt m f g i l' (λ j k. h j (omega arith)) s) (dec_lt i m)
  where
    go : (i < m → sum m f < sum m g) → Dec (i < m) → f m + sum m f < g m + sum m g
    go rest (yes y) = omega (arith, rest y, h m (omega arith))
    go rest (no y) =
        let z : i ≡ m = omega arith in
        let s' : f m < g m = rw z at s in
        omega (arith, sum-le m f g (λ j k. h j (omega arith)))

-- terms 1 to m of a sum are all c
pub sum-tail : (m c : ℕ) (g : ℕ → ℕ) → ((j : ℕ) → 0 < j → j < suc m → g j ≡ c) → m * c ≤ sum (suc m) g
unfolding sum
sum-tail zero c g h = omega arith
sum-tail (suc m) c g h = omega (arith, h (suc m) (omega arith) (omega arith), sum-tail m c g (λ j one l. h j one (omega arith)))

-- one of the tests passes
sum-bits-ge : (m : ℕ) (c : ℕ → Bool) (j : ℕ) → j < m → c j ≡ true → 1 ≤ sum m (λ k. bit (c k))
unfolding sum
sum-bits-ge zero c j l e = absurd (omega arith)
sum-bits-ge (suc m) c j l e = go (λ l'. sum-bits-ge m c j l' e) (dec_lt j m)
  where
    go : (j < m → 1 ≤ sum m (λ k. bit (c k))) → Dec (j < m) → 1 ≤ bit (c m) + sum m (λ k. bit (c k))
    go rest (yes y) = omega (arith, rest y)
    go rest (no y) = let z : j ≡ m = omega arith in omega (arith, ap bit (ap c (sym z) ∙ e))

-- Of tests that exclude each other one passes at the most, and none where b is false that each of them implies.
module _ (c : ℕ → Bool) (alone : (j k : ℕ) → c j ≡ true → c k ≡ true → j ≡ k) where
  none_below : (n m : ℕ) → m ≤ n → c n ≡ true → sum m (λ k. bit (c k)) ≡ 0
  unfolding sum
  none_below n zero l e = refl
  none_below n (suc m) l e = go (none_below n m (omega arith) e) (c m) refl
    where
      go : sum m (λ k. bit (c k)) ≡ 0 → (b : Bool) → c m ≡ b → bit (c m) + sum m (λ k. bit (c k)) ≡ 0
      go rest true q = absurd (let z = alone m n q e in omega arith)
      go rest false q = omega (arith, ap bit q)

  sum-bits-le : (m : ℕ) (b : Bool) → ((j : ℕ) → j < m → c j ≡ true → b ≡ true) → sum m (λ k. bit (c k)) ≤ bit b
  unfolding sum
  sum-bits-le zero b h = omega arith
  sum-bits-le (suc m) b h = go (sum-bits-le m b (λ j l. h j (omega arith))) (c m) refl
    where
      go : sum m (λ k. bit (c k)) ≤ bit b → (x : Bool) → c m ≡ x → bit (c m) + sum m (λ k. bit (c k)) ≤ bit b
      go rest true q = omega (arith, ap bit q, ap bit (h m (omega arith) q), none_below m m (omega arith) q)
      go rest false q = omega (arith, ap bit q)

-- ---- tallies

module _ {A : Type 0} where
  -- what every entry satisfies
  abbrev pub All : (A → Type 0) → List A → Type 0
  All Q [] = Unit {0}
  All Q (x ∷ xs) = Q x × All Q xs

  pub all_map : (Q R : A → Type 0) → ((x : A) → Q x → R x) → (xs : List A) → All Q xs → All R xs
  all_map Q R h [] a = tt
  all_map Q R h (x ∷ xs) a = (h x a.0, all_map Q R h xs a.1)

  pub tally-skip : (p : A → Bool) (x : A) (xs : List A) → p x ≡ false → tally p (x ∷ xs) ≡ tally p xs
  unfolding tally
  tally-skip p x xs e = omega (arith, ap bit e)

  pub tally-hit : (p : A → Bool) (x : A) (xs : List A) → p x ≡ true → tally p (x ∷ xs) ≡ suc (tally p xs)
  unfolding tally
  tally-hit p x xs e = omega (arith, ap bit e)

  pub tally-append : (p : A → Bool) (xs ys : List A) → tally p (xs ++ ys) ≡ tally p xs + tally p ys
  unfolding tally
  tally-append p [] ys = omega arith
  tally-append p (x ∷ xs) ys = omega (arith, tally-append p xs ys)

  -- a tally goes by the entries in the list
  pub tally-same : (p q : A → Bool) (xs : List A) → All (λ x. p x ≡ q x) xs → tally p xs ≡ tally q xs
  unfolding tally
  tally-same p q [] a = refl
  tally-same p q (x ∷ xs) a = omega (arith, ap bit a.0, tally-same p q xs a.1)

  pub tally-none : (p : A → Bool) (xs : List A) → All (λ x. p x ≡ false) xs → tally p xs ≡ 0
  unfolding tally
  tally-none p [] a = refl
  tally-none p (x ∷ xs) a = omega (arith, ap bit a.0, tally-none p xs a.1)

  pub tally-le : (p q : A → Bool) → ((x : A) → p x ≡ true → q x ≡ true) → (xs : List A) → tally p xs ≤ tally q xs
  unfolding tally
  tally-le p q h [] = omega arith
  tally-le p q h (x ∷ xs) = go (tally-le p q h xs) (p x) refl
    where
      go : tally p xs ≤ tally q xs → (b : Bool) → p x ≡ b → bit (p x) + tally p xs ≤ bit (q x) + tally q xs
      go rest true e = omega (arith, ap bit e, ap bit (h x e))
      go rest false e = omega (arith, ap bit e)

  -- The tallies of m classes together are at most that of p, if the classes exclude each other and lie in p.
  pub tally-join : (m : ℕ) (p : A → Bool) (q : ℕ → A → Bool) → ((x : A) (j k : ℕ) → q j x ≡ true → q k x ≡ true → j ≡ k)
      → ((x : A) (j : ℕ) → j < m → q j x ≡ true → p x ≡ true) → (xs : List A) → sum m (λ j. tally (q j) xs) ≤ tally p xs
  unfolding tally
  tally-join m p q alone inside [] = omega (arith, sum-const m 0)
  tally-join m p q alone inside (x ∷ xs) =
      omega (
        arith,
        sum-bits-le (λ j. q j x) (alone x) m (p x) (inside x),
        tally-join m p q alone inside xs,
        sum-add m (λ j. bit (q j x)) (λ j. tally (q j) xs),
      )

  -- a class below m that x is in
  pub record Classed (m : ℕ) (q : ℕ → A → Bool) (x : A) : Type 0 where
    pub class : ℕ
    pub below : class < m
    pub belongs : q class x ≡ true

  -- They are at least that of p, if each entry in p is in one of them.
  pub tally-split : (m : ℕ) (p : A → Bool) (q : ℕ → A → Bool) (xs : List A) → All (λ x. p x ≡ true → Classed m q x) xs
      → tally p xs ≤ sum m (λ j. tally (q j) xs)
  unfolding tally
  tally-split m p q [] a = omega arith
  tally-split m p q (x ∷ xs) a = go (tally-split m p q xs a.1) (p x) refl
    where
      go : tally p xs ≤ sum m (λ j. tally (q j) xs) → (b : Bool) → p x ≡ b → bit (p x) + tally p xs ≤ sum m (λ j. bit (q j x) + tally (q j) xs)
      go rest true e =
          let c = a.0 e in
          omega (arith, ap bit e, sum-bits-ge m (λ j. q j x) c.class c.below c.belongs, sum-add m (λ j. bit (q j x)) (λ j. tally (q j) xs))
      go rest false e = omega (arith, ap bit e, sum-add m (λ j. bit (q j x)) (λ j. tally (q j) xs))
