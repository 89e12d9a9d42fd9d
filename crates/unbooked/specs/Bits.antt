-- The bits of a word, counted from the lowest. Assumes nothing.
use Rattle.std.specs.Prelude.{ℕ, ◌/◌, ◌%◌, ◌^◌, ◌≤◌, ◌<◌, ◌≡◌, Bool, true, false, eqb}

-- bit i is 1
unfoldable pub bit_at : (word i : ℕ) → Bool
bit_at word i = eqb (word / 2 ^ i % 2) 1

-- bit i is 1 exactly when i passes t: one word for each t (`one_word`)
pub record Bits (t : ℕ → Bool) (word : ℕ) : Type 0 where
  pub is : (i : ℕ) → bit_at word i ≡ t i

-- i is the lowest bit that is 1, and 64 where there is none
pub record Lowest (word i : ℕ) : Type 0 where
  pub at_most : i ≤ 64
  pub none : word ≡ 0 → i ≡ 64
  pub there : (word ≡ 0 → ⊥) → bit_at word i ≡ true
  pub none_before : (k : ℕ) → k < i → bit_at word k ≡ false
