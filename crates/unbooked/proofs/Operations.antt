-- The bits of what the operations on words give. Assumes nothing.
use Prim.Native.Nat.{ℕ, zero, suc, ◌+◌, ◌-◌, ◌*◌, ◌/◌, ◌%◌, ◌^◌, ◌≤◌, ◌<◌}
use mathlib.Core.Path.{◌≡◌, refl, sym, ap, ◌∙◌}
use mathlib.Core.Bool.{false, not, ◌&&◌, and-false, and_comm}
use native.Mathlib.Nat.{div-one, mul-one, mul_assoc, div-div-eq-div-mul, div-mul-le_self, mod-eq_of_lt, pow-suc, mul_comm, one-mul}
use native.Mathlib.Decide.{ℕ_discrete, dec_lt}
use native.Mathlib.Omega.{arith}
use lib.Bits.{bit_and, and_step}
use lib.Dec.{leb, ltb, eqb, leb-zero, leb-suc-zero, leb-suc-suc, eqb-zero-suc, eqb-suc-zero, eqb-suc-suc}
use lib.Pow.{pow_pos, pow-lt, ones_split, ones_lt, high}
use borrow.Author.Tests.{le-ltb, lt-ltb, lt-leb}
use Rattle.unbooked.specs.Bits.{bit_at, Bits}
use Rattle.unbooked.proofs.WordBits.{bit-suc, odd, even, rest-is, bit-above, no-bit}

-- ---- the bits below n

ones_bit : (n i : ℕ) → bit_at (2 ^ n - 1) i ≡ ltb i n
ones_bit zero i = no-bit i ∙ sym (le-ltb i 0 (omega arith))
ones_bit (suc n) zero = odd (2 ^ suc n - 1) (omega (arith, pow_pos n)) ∙ sym (lt-ltb 0 (suc n) (omega arith))
ones_bit (suc n) (suc i) =
    rest-is (2 ^ suc n - 1) (2 ^ n - 1) i (omega (arith, pow_pos n)) (ones_bit n i ∙ sym (leb-suc-suc (suc i) n))

-- all bits of a word of m, shifted down so that n are left
pub shifted-ones : (m n : ℕ) → n ≤ m → Bits (λ i. ltb i n) ((2 ^ m - 1) / 2 ^ (m - n))
shifted-ones m n h = record { is = λ i. ap (λ (x : ℕ). bit_at x i) shifted ∙ ones_bit n i }
  where
    whole : n + (m - n) ≡ m
    whole = omega arith

    shifted : (2 ^ m - 1) / 2 ^ (m - n) ≡ 2 ^ n - 1
    shifted =
        ap (λ (x : ℕ). (2 ^ x - 1) / 2 ^ (m - n)) (sym whole)
        ∙ ap (λ (x : ℕ). x / 2 ^ (m - n)) (ones_split n (m - n))
        ∙ high (2 ^ n - 1) (m - n) (ones_lt (m - n))

-- ---- without the bits below n

from-bit : (n word i : ℕ) → bit_at (word / 2 ^ n * 2 ^ n) i ≡ leb n i && bit_at word i
from-bit zero word i = ap (λ (x : ℕ). bit_at x i) (mul-one (word / 1) ∙ div-one word) ∙ ap (◌&& bit_at word i) (sym (leb-zero i))
from-bit (suc n) word i = ap (λ (x : ℕ). bit_at x i) twice ∙ go i (λ k. from-bit n (word / 2) k)
  where
    half : ℕ
    half = word / 2 / 2 ^ n * 2 ^ n

    twice : word / 2 ^ suc n * 2 ^ suc n ≡ half * 2
    twice =
        ap (λ (x : ℕ). word / x * 2 ^ suc n) (pow-suc 2 n ∙ mul_comm (2 ^ n) 2)
        ∙ ap (λ (x : ℕ). x * 2 ^ suc n) (sym (div-div-eq-div-mul word 2 (2 ^ n)))
        ∙ ap (λ (x : ℕ). word / 2 / 2 ^ n * x) (pow-suc 2 n)
        ∙ sym (mul_assoc (word / 2 / 2 ^ n) (2 ^ n) 2)

    go : (i : ℕ) → ((k : ℕ) → bit_at half k ≡ leb n k && bit_at (word / 2) k) → bit_at (half * 2) i ≡ leb (suc n) i && bit_at word i
    go zero rest = even (half * 2) (omega arith) ∙ ap (◌&& bit_at word 0) (sym (leb-suc-zero n))
    go (suc i) rest =
        rest-is (half * 2) half i (omega arith)
        (rest i ∙ ap (leb n i &&◌) (sym (bit-suc word i)) ∙ ap (◌&& bit_at word (suc i)) (sym (leb-suc-suc n i)))

-- shifted down by n and up again, in m bits
pub shifted_back : (m n word : ℕ) → word < 2 ^ m → Bits (λ i. leb n i && bit_at word i) ((word / 2 ^ n * 2 ^ n) % 2 ^ m)
shifted_back m n word h = record { is = λ i. ap (λ (x : ℕ). bit_at x i) same ∙ from-bit n word i }
  where
    same : (word / 2 ^ n * 2 ^ n) % 2 ^ m ≡ word / 2 ^ n * 2 ^ n
    same = mod-eq_of_lt (omega (arith, div-mul-le_self word (2 ^ n)))

-- ---- without bit n

power-bit : (n i : ℕ) → bit_at (2 ^ n) i ≡ eqb i n
power-bit zero zero = odd 1 refl
power-bit zero (suc i) = rest-is 1 0 i refl (no-bit i ∙ sym (eqb-suc-zero i))
power-bit (suc n) zero = even (2 ^ suc n) (omega arith) ∙ sym (eqb-zero-suc n)
power-bit (suc n) (suc i) = rest-is (2 ^ suc n) (2 ^ n) i (omega arith) (power-bit n i ∙ sym (eqb-suc-suc i n))

-- all bits of a word of m changed
complement-bit : (m word i : ℕ) → word < 2 ^ m → i < m → bit_at (2 ^ m - 1 - word) i ≡ not (bit_at word i)
complement-bit zero word i h l = absurd (omega arith)
complement-bit (suc m) word zero h l = go (ℕ_discrete (word % 2) 1)
  where
    go : Dec (word % 2 ≡ 1) → bit_at (2 ^ suc m - 1 - word) 0 ≡ not (bit_at word 0)
    go (yes d) = even (2 ^ suc m - 1 - word) (omega arith) ∙ ap not (sym (odd word d))
    go (no d) = odd (2 ^ suc m - 1 - word) (omega arith) ∙ ap not (sym (even word (omega arith)))
complement-bit (suc m) word (suc i) h l =
    rest-is (2 ^ suc m - 1 - word) (2 ^ m - 1 - word / 2) i (omega arith)
    (complement-bit m (word / 2) i (omega arith) (omega arith) ∙ ap not (sym (bit-suc word i)))

-- the bits that two words have in common
and-bit : (i a b : ℕ) → bit_at (bit_and a b) i ≡ bit_at a i && bit_at b i
and-bit zero a b = go (ℕ_discrete (a % 2) 1) (ℕ_discrete (b % 2) 1)
  where
    go : Dec (a % 2 ≡ 1) → Dec (b % 2 ≡ 1) → bit_at (bit_and a b) 0 ≡ bit_at a 0 && bit_at b 0
    go (yes d) (yes e) = rw (odd a d, odd b e) (odd (bit_and a b) (omega (arith, and_step a b)))
    go (yes d) (no e) = rw (odd a d, even b (omega arith)) (even (bit_and a b) (omega (arith, and_step a b)))
    go (no d) e = rw (even a (omega arith)) (even (bit_and a b) (omega (arith, and_step a b)))
and-bit (suc i) a b =
    rest-is (bit_and a b) (bit_and (a / 2) (b / 2)) i (omega (arith, and_step a b))
    (and-bit i (a / 2) (b / 2) ∙ rw (bit-suc a i, bit-suc b i))

-- in m bits, the word and all bits but n
pub cleared : (m n word : ℕ) → word < 2 ^ m → n < m
    → Bits (λ i. not (eqb i n) && bit_at word i) (bit_and word (2 ^ m - 1 - (1 * 2 ^ n) % 2 ^ m))
cleared m n word h l = record { is = λ i. and-bit i word (2 ^ m - 1 - (1 * 2 ^ n) % 2 ^ m) ∙ go i (dec_lt i m) }
  where
    power : (1 * 2 ^ n) % 2 ^ m ≡ 2 ^ n
    power = ap (◌% 2 ^ m) (one-mul (2 ^ n)) ∙ mod-eq_of_lt (pow-lt l)

    others : (i : ℕ) → i < m → bit_at (2 ^ m - 1 - (1 * 2 ^ n) % 2 ^ m) i ≡ not (eqb i n)
    others i b =
        ap (λ (x : ℕ). bit_at (2 ^ m - 1 - x) i) power
        ∙ complement-bit m (2 ^ n) i (pow-lt l) b
        ∙ ap not (power-bit n i)

    go : (i : ℕ) → Dec (i < m) → bit_at word i && bit_at (2 ^ m - 1 - (1 * 2 ^ n) % 2 ^ m) i ≡ not (eqb i n) && bit_at word i
    go i (yes b) = rw (others i b) (and_comm (bit_at word i) (not (eqb i n)))
    go i (no b) = rw (bit-above word m h i (omega arith), and-false)

-- no bit of a word of m is left from m on
pub none_from : (m n word : ℕ) → word < 2 ^ m → m ≤ n → Bits (λ i. leb n i && bit_at word i) 0
none_from m n word h l = record { is = λ i. no-bit i ∙ sym (go i (dec_lt i n)) }
  where
    go : (i : ℕ) → Dec (i < n) → leb n i && bit_at word i ≡ false
    go i (yes b) = rw (lt-leb n i b)
    go i (no b) = rw (bit-above word m h i (omega arith), and-false)
