-- Loops over the numbers below a bound: a test of each that is left at the first that fails, and a sum. Assumes nothing.
use Prim.Native.Nat.{ℕ, zero, suc, ◌+◌, ◌≤◌, ◌<◌}
use mathlib.Core.Path.{◌≡◌, refl, sym, ap, ◌∙◌}
use mathlib.Core.Bool.{Bool, true, false, ◌&&◌}
use Rattle.std.specs.Int.{from_bool}
use native.Mathlib.Decide.{ℕ_discrete}
use native.Mathlib.Numerals.{add-one}
use native.Mathlib.Omega.{arith}
use lib.Dec.{eqb}
use borrow.Author.Tests.{eq-eqb, ne_eqb}
use Rattle.model.specs.Tables.{every, sum, bit}
use Rattle.window.proofs.Tabulated.{every-intro, every-miss}

-- ---- a test: the first k of n numbers pass

pub record Passing (t : ℕ → Bool) (n k : ℕ) : Type 0 where
  pub to : k ≤ n
  pub pass : (j : ℕ) → j < k → t j ≡ true

module _ {t : ℕ → Bool} {n : ℕ} where
  pub passing-none : Passing t n 0
  passing-none = record { to = omega arith; pass = λ j h. absurd (omega arith) }

  module _ {k : ℕ} (v : Passing t n k) where
    pub passing-more : k < n → t k ≡ true → Passing t n (k + 1)
    passing-more h e = record { to = omega arith; pass = λ j l. go j l (ℕ_discrete j k) }
      where
        go : (j : ℕ) → j < k + 1 → Dec (j ≡ k) → t j ≡ true
        go j l (yes d) = rw d e
        go j l (no d) = v.pass j (omega arith)

    pub passing-miss : k < n → t k ≡ false → false ≡ every n t
    passing-miss h e = sym (every-miss n t k h e)

    pub passing-all : n ≤ k → true ≡ every n t
    passing-all h = sym (every-intro n t (λ j l. v.pass j (omega arith)))

-- ---- a sum: of the first k of n numbers, each at most 1

pub record Counting (f : ℕ → ℕ) (n k total : ℕ) : Type 0 where
  pub to : k ≤ n
  pub is : total ≡ sum k f
  pub most : total ≤ k

module _ {f : ℕ → ℕ} {n : ℕ} where
  pub counting-none : Counting f n 0 0
  unfolding sum
  counting-none = record { to = omega arith; is = refl; most = omega arith }

  module _ {k total : ℕ} (v : Counting f n k total) where
    sum_more : sum (k + 1) f ≡ f k + sum k f
    unfolding sum
    sum_more = ap (λ m. sum m f) (add-one k)

    pub counting_more : {x : ℕ} → k < n → x ≡ f k → x ≤ 1 → Counting f n (k + 1) (total + x)
    counting_more h e one = record { to = omega arith; is = omega (arith, sum_more, v.is); most = omega (arith, v.most) }

    pub counting-done : n ≤ k → (total ≡ sum n f) × (total ≤ n)
    counting-done h = let z : k ≡ n = omega (arith, v.to) in (v.is ∙ ap (λ m. sum m f) z, omega (arith, v.most))

-- ---- a count of those that pass a test is the bound exactly if all do

as_bit : (b : Bool) → (from_bool b ≡ bit b) × (bit b ≤ 1)
as_bit true = (refl, omega arith)
as_bit false = (refl, omega arith)

-- the next one is counted by its test
pub counting_test : (t : ℕ → Bool) {n k total x : ℕ} {b : Bool} → Counting (λ j. bit (t j)) n k total → k < n → x ≡ from_bool b → b ≡ t k
    → Counting (λ j. bit (t j)) n (k + 1) (total + x)
counting_test t {k = k} {b = b} v h e is =
    let told = as_bit b in
    let most : bit b ≤ 1 = told.1 in
    let x-is = e ∙ told.0 in
    counting_more v h (x-is ∙ ap bit is) (rw x-is most)

bits_most : (n : ℕ) (t : ℕ → Bool) → sum n (λ k. bit (t k)) ≤ n
unfolding sum
bits_most zero t = omega arith
bits_most (suc n) t = go (t n) (bits_most n t)
  where
    go : (b : Bool) → sum n (λ k. bit (t k)) ≤ n → bit b + sum n (λ k. bit (t k)) ≤ suc n
    go true h = omega arith
    go false h = omega arith

bits-all : (n : ℕ) (t : ℕ → Bool) → eqb (sum n (λ k. bit (t k))) n ≡ every n t
unfolding sum every
bits-all zero t = refl
bits-all (suc n) t = go (t n) (bits-all n t)
  where
    s : ℕ
    s = sum n (λ k. bit (t k))

    both : Dec (s ≡ n) → eqb (1 + s) (suc n) ≡ eqb s n
    both (yes e) = eq-eqb (1 + s) (suc n) (omega arith) ∙ sym (eq-eqb s n e)
    both (no d) = ne_eqb (1 + s) (suc n) (λ z. d (omega arith)) ∙ sym (ne_eqb s n d)

    go : (b : Bool) → eqb s n ≡ every n t → eqb (bit b + s) (suc n) ≡ b && every n t
    go true e = both (ℕ_discrete s n) ∙ e
    go false e = ne_eqb (0 + s) (suc n) (λ z. omega (arith, bits_most n t))

pub counted-all : (t : ℕ → Bool) {n k total : ℕ} → Counting (λ j. bit (t j)) n k total → n ≤ k → eqb total n ≡ every n t
counted-all t {n} v h = ap (λ x. eqb x n) (counting-done v h).0 ∙ bits-all n t
