-- Counting the zeros below a word's lowest bit finds that bit. Assumes nothing.
use Prim.Native.Nat.{ℕ, zero, suc, ◌/◌, ◌%◌, ◌^◌, ◌<◌}
use mathlib.Core.Path.{◌≡◌, ap, ◌∙◌}
use mathlib.Core.Bool.{true, false}
use native.Mathlib.Decide.{ℕ_discrete}
use native.Mathlib.Omega.{arith}
use lib.Count.{count_trailing_zeros, under, trailing_of_zero, trailing_le}
use Rattle.unbooked.specs.Bits.{bit_at, Lowest}
use Rattle.unbooked.proofs.WordBits.{bit-suc, odd, even}

-- of a word of any length
record LowestOf (word i : ℕ) : Type 0 where
  there : (word ≡ 0 → ⊥) → bit_at word i ≡ true
  none_before : (k : ℕ) → k < i → bit_at word k ≡ false

trailing : (n word : ℕ) → word < 2 ^ n → LowestOf word (count_trailing_zeros n word)
unfolding count_trailing_zeros
trailing zero word h = record { there = λ some. absurd (some (omega arith)); none_before = λ k l. absurd (omega arith) }
trailing (suc n) word h = go (ℕ_discrete (word % 2) 1) (trailing n (word / 2) (omega arith))
  where
    go : Dec (word % 2 ≡ 1) → LowestOf (word / 2) (count_trailing_zeros n (word / 2))
        → LowestOf word (under (word % 2) (count_trailing_zeros n (word / 2)))
    go (yes d) rest = rw d (record { there = λ some. odd word d; none_before = λ k l. absurd (omega arith) })
    go (no d) rest =
        let z : word % 2 ≡ 0 = omega arith in
        rw z (record {
          there = λ some. bit-suc word (count_trailing_zeros n (word / 2)) ∙ rest.there (λ none. some (omega arith));
          none_before = λ k l. before k l;
        })
      where
        before : (k : ℕ) → k < suc (count_trailing_zeros n (word / 2)) → bit_at word k ≡ false
        before zero l = even word (omega arith)
        before (suc k) l = bit-suc word k ∙ rest.none_before k (omega arith)

pub trailing-lowest : (word : ℕ) → word < 2 ^ 64 → Lowest word (count_trailing_zeros 64 word)
trailing-lowest word h =
    let found = trailing 64 word h in
    record {
      at_most = trailing_le 64 word;
      none = λ z. ap (count_trailing_zeros 64) z ∙ trailing_of_zero 64;
      there = found.there;
      none_before = found.none_before;
    }
