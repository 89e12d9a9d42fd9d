-- The bits of a word: the lowest one and the rest, above a word's length, and that they determine the word. Assumes nothing.
use Prim.Native.Nat.{ℕ, zero, suc, ◌+◌, ◌*◌, ◌/◌, ◌%◌, ◌^◌, ◌≤◌, ◌<◌}
use mathlib.Core.Path.{◌≡◌, sym, ap, ◌∙◌}
use mathlib.Core.Bool.{Bool, true, false, true≢false}
use native.Mathlib.Nat.{div-one, div-div-eq-div-mul, div-eq_of_lt, pow-suc, mul_comm, lt_of_lt_of_le}
use native.Mathlib.Decide.{dec_lt, ℕ_discrete}
use native.Mathlib.Omega.{arith}
use lib.Dec.{eqb}
use lib.Pow.{pow_mono}
use borrow.Author.Tests.{eq-eqb, ne_eqb, eqb-true}
use Rattle.unbooked.specs.Bits.{bit_at, Bits, Lowest}

-- ---- the lowest bit, and the rest

module _ (word : ℕ) where
  pub bit-zero : bit_at word 0 ≡ eqb (word % 2) 1
  unfolding bit_at
  bit-zero = ap (λ (x : ℕ). eqb (x % 2) 1) (div-one word)

  pub bit-suc : (i : ℕ) → bit_at word (suc i) ≡ bit_at (word / 2) i
  unfolding bit_at
  bit-suc i =
      let halves = div-div-eq-div-mul word 2 (2 ^ i) in
      let power : 2 ^ suc i ≡ 2 * 2 ^ i = pow-suc 2 i ∙ mul_comm (2 ^ i) 2 in
      ap (λ (x : ℕ). eqb (word / x % 2) 1) power ∙ ap (λ (x : ℕ). eqb (x % 2) 1) (sym halves)

  pub odd : word % 2 ≡ 1 → bit_at word 0 ≡ true
  odd e = bit-zero ∙ eq-eqb (word % 2) 1 e

  pub even : word % 2 ≡ 0 → bit_at word 0 ≡ false
  even e = bit-zero ∙ ne_eqb (word % 2) 1 (λ z. omega arith)

  pub rest-is : (rest i : ℕ) {b : Bool} → word / 2 ≡ rest → bit_at rest i ≡ b → bit_at word (suc i) ≡ b
  rest-is rest i h e = bit-suc i ∙ ap (λ (x : ℕ). bit_at x i) h ∙ e

  -- a word of n bits has none from n on
  pub bit-above : (n : ℕ) → word < 2 ^ n → (i : ℕ) → n ≤ i → bit_at word i ≡ false
  unfolding bit_at
  bit-above n h i l = ap (λ (x : ℕ). eqb (x % 2) 1) (div-eq_of_lt (lt_of_lt_of_le h (pow_mono l)))

pub no-bit : (i : ℕ) → bit_at 0 i ≡ false
no-bit zero = bit-zero 0
no-bit (suc i) = bit-suc 0 i ∙ no-bit i

-- ---- the bits determine the word

same-parity : (a b : ℕ) → eqb (a % 2) 1 ≡ eqb (b % 2) 1 → a % 2 ≡ b % 2
same-parity a b e = go (ℕ_discrete (a % 2) 1) (ℕ_discrete (b % 2) 1)
  where
    go : Dec (a % 2 ≡ 1) → Dec (b % 2 ≡ 1) → a % 2 ≡ b % 2
    go (yes p) (yes q) = p ∙ sym q
    go (yes p) (no q) = absurd (q (eqb-true (b % 2) 1 (sym e ∙ eq-eqb (a % 2) 1 p)))
    go (no p) (yes q) = absurd (p (eqb-true (a % 2) 1 (e ∙ eq-eqb (b % 2) 1 q)))
    go (no p) (no q) = omega arith

same_bits : (n a b : ℕ) → a ≤ n → b ≤ n → ((i : ℕ) → bit_at a i ≡ bit_at b i) → a ≡ b
same_bits zero a b h l e = omega arith
same_bits (suc n) a b h l e =
    let lowest = same-parity a b (sym (bit-zero a) ∙ e 0 ∙ bit-zero b) in
    let rest = same_bits n (a / 2) (b / 2) (omega arith) (omega arith) (λ i. sym (bit-suc a i) ∙ e (suc i) ∙ bit-suc b i) in
    omega arith

pub one_word : {t : ℕ → Bool} {a b : ℕ} → Bits t a → Bits t b → a ≡ b
one_word {a = a} {b = b} x y = same_bits (a + b) a b (omega arith) (omega arith) (λ i. x.is i ∙ sym (y.is i))

-- one lowest bit for each word
pub one-lowest : {word i j : ℕ} → Lowest word i → Lowest word j → i ≡ j
one-lowest {word} {i} {j} x y = go (ℕ_discrete word 0)
  where
    before : {i j : ℕ} → Lowest word i → Lowest word j → (word ≡ 0 → ⊥) → i < j → ⊥
    before {i} x y n h = true≢false (sym (x.there n) ∙ y.none_before i h)

    apart : (word ≡ 0 → ⊥) → Dec (i < j) → Dec (j < i) → i ≡ j
    apart n (yes d) e = absurd (before x y n d)
    apart n (no d) (yes e) = absurd (before y x n e)
    apart n (no d) (no e) = omega arith

    go : Dec (word ≡ 0) → i ≡ j
    go (yes z) = x.none z ∙ sym (y.none z)
    go (no n) = apart n (dec_lt i j) (dec_lt j i)
