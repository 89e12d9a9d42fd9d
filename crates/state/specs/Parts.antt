-- A part of a list of bytes: read, replaced, and left alone by what changes only other places; and a number in some bytes, the low one first.
-- Assumes nothing.
use Rattle.std.specs.Prelude.{ℕ, zero, suc, ◌+◌, ◌-◌, ◌*◌, ◌/◌, ◌%◌, ◌≤◌, ◌<◌, ◌≡◌, List, ◌∷◌, [], length, get_or}
use Rattle.model.specs.Tables.{table}
use Rattle.window.specs.Ranges.{in_range, replaced}

-- the n elements from a on
unfoldable pub part : List ℕ → (a n : ℕ) → List ℕ
part s a n = table n (λ k. get_or s (a + k) 0)

-- the n elements from a on replaced by those of xs
unfoldable pub with_part : List ℕ → (a n : ℕ) → List ℕ → List ℕ
with_part s a n xs = replaced (in_range a (a + n)) (λ k x. get_or xs (k - a) 0) s

-- t is s but for places from a to e
pub record Beside (a e : ℕ) (s t : List ℕ) : Type 0 where
  pub long : length t ≡ length s
  pub kept : (k : ℕ) → (a ≤ k → k < e → ⊥) → get_or t k 0 ≡ get_or s k 0

-- no place of the n from b on lies in the range from a to e
abbrev pub Apart : (b n a e : ℕ) → Type 0
Apart b n a e = (k : ℕ) → b ≤ k → k < b + n → a ≤ k → k < e → ⊥

-- ---- a number in bytes

unfoldable pub number_in : List ℕ → ℕ
number_in [] = 0
number_in (x ∷ xs) = x + 256 * number_in xs

-- n bytes of a number
unfoldable pub bytes_of : (n x : ℕ) → List ℕ
bytes_of zero x = []
bytes_of (suc n) x = x % 256 ∷ bytes_of n (x / 256)
