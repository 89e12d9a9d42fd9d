-- Decimal digits: they come one by one, from the last, and read back to the number. Assumes nothing.
use Prim.Native.Nat.{ℕ, zero, suc, ◌+◌, ◌*◌, ◌-◌, ◌/◌, ◌%◌, ◌≤◌, ◌<◌}
use mathlib.Core.Path.{◌≡◌, refl, sym, ap, ◌∙◌}
use mathlib.Core.List.{List, ◌∷◌, [], ◌++◌}
use native.Mathlib.Decide.{dec_lt}
use native.Mathlib.Omega.{arith}
use borrow.Author.Tests.{lt-ltb, le-ltb}
use Rattle.model.specs.Listing.{digit, digits, decimal}

digits-one : (k n : ℕ) → n < 10 → digits (suc k) n ≡ digit n ∷ []
unfolding digits
digits-one k n h = rw (lt-ltb n 10 h)

digits_more : (k n : ℕ) → 10 ≤ n → digits (suc k) n ≡ digits k (n / 10) ++ (digit (n % 10) ∷ [])
unfolding digits
digits_more k n h = rw (le-ltb n 10 h)

-- more places make no difference
digits_same : (j k n : ℕ) → n < j → n < k → digits j n ≡ digits k n
digits_same zero k n h g = absurd (omega arith)
digits_same (suc j) zero n h g = absurd (omega arith)
digits_same (suc j) (suc k) n h g = go (digits_same j k (n / 10)) (dec_lt n 10)
  where
    go : (n / 10 < j → n / 10 < k → digits j (n / 10) ≡ digits k (n / 10)) → Dec (n < 10) → digits (suc j) n ≡ digits (suc k) n
    go rest (yes l) = digits-one j n l ∙ sym (digits-one k n l)
    go rest (no l) =
        digits_more j n (omega arith) ∙ ap (◌++ (digit (n % 10) ∷ [])) (rest (omega arith) (omega arith)) ∙ sym (digits_more k n (omega arith))

pub decimal-one : (n : ℕ) → n < 10 → decimal n ≡ digit n ∷ []
unfolding decimal
decimal-one n h = digits-one n n h

pub decimal-more : (n : ℕ) → 10 ≤ n → decimal n ≡ decimal (n / 10) ++ (digit (n % 10) ∷ [])
unfolding decimal
decimal-more n h = digits_more n n h ∙ ap (◌++ (digit (n % 10) ∷ [])) (digits_same n (suc (n / 10)) (n / 10) (omega arith) (omega arith))

-- the number that digits are read as
abbrev pub value : ℕ → List ℕ → ℕ
value so_far [] = so_far
value so_far (d ∷ ds) = value (so_far * 10 + (d - 48)) ds

value-append : (n : ℕ) (ds es : List ℕ) → value n (ds ++ es) ≡ value (value n ds) es
value-append n [] es = refl
value-append n (d ∷ ds) es = value-append (n * 10 + (d - 48)) ds es

read_back : (k n : ℕ) → n < k → value 0 (digits k n) ≡ n
read_back zero n h = absurd (omega arith)
read_back (suc k) n h = go (read_back k (n / 10)) (dec_lt n 10)
  where
    go : (n / 10 < k → value 0 (digits k (n / 10)) ≡ n / 10) → Dec (n < 10) → value 0 (digits (suc k) n) ≡ n
    go rest (yes l) = ap (value 0) (digits-one k n l) ∙ omega arith
    go rest (no l) =
        ap (value 0) (digits_more k n (omega arith)) ∙ value-append 0 (digits k (n / 10)) (digit (n % 10) ∷ []) ∙ omega (arith, rest (omega arith))

pub decimal-read-back : (n : ℕ) → value 0 (decimal n) ≡ n
unfolding decimal
decimal-read-back n = read_back (suc n) n (omega arith)
