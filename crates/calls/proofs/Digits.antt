-- The digits that are stored one by one are those of the number. Assumes nothing.
use Prim.Native.Nat.{ℕ, ◌*◌, ◌/◌, ◌%◌, ◌<◌}
use mathlib.Core.Path.{◌≡◌, sym, ap, ◌∙◌}
use mathlib.Core.List.{List, ◌∷◌, [], ◌++◌, append_assoc}
use mathlib.Core.Bool.{cond}
use native.Mathlib.Decide.{dec_lt}
use native.Mathlib.Nat.{div-div-eq-div-mul, mod-eq_of_lt, div-lt_iff_lt-mul, le-div_iff_mul-le}
use native.Mathlib.Omega.{arith}
use lib.Dec.{ltb}
use borrow.Author.Tests.{lt-ltb, le-ltb}
use Rattle.model.specs.Listing.{digit, decimal}
use Rattle.model.proofs.Decimal.{decimal-one, decimal-more}
use Rattle.calls.specs.Lines.{digit_at, number_line}

-- the digits of n from the place of p on
from : ℕ → ℕ → List ℕ
from p n = cond (ltb n p) [] (decimal (n / p))

-- all but the last digit, and the last
last-digit : (n : ℕ) → decimal n ≡ from 10 n ++ (digit (n % 10) ∷ [])
unfolding from
last-digit n = go (dec_lt n 10)
  where
    go : Dec (n < 10) → decimal n ≡ from 10 n ++ (digit (n % 10) ∷ [])
    go (yes h) = rw (lt-ltb n 10 h, mod-eq_of_lt h) (decimal-one n h)
    go (no h) = rw (le-ltb n 10 (omega arith)) (decimal-more n (omega arith))

place-above : (p n : ℕ) → 0 < p → from 10 (n / p) ≡ from (p * 10) n
unfolding from
place-above p n pos = go (dec_lt n (p * 10))
  where
    go : Dec (n < p * 10) → from 10 (n / p) ≡ from (p * 10) n
    go (yes h) = rw (lt-ltb (n / p) 10 ((div-lt_iff_lt-mul pos).1 (omega arith)), lt-ltb n (p * 10) h)
    go (no h) = rw (le-ltb (n / p) 10 ((le-div_iff_mul-le pos).1 (omega arith)), le-ltb n (p * 10) (omega arith), div-div-eq-div-mul n p 10)

one_more : (p n : ℕ) → 0 < p → from p n ≡ from (p * 10) n ++ digit_at p n
unfolding from digit_at
one_more p n pos = go (dec_lt n p)
  where
    go : Dec (n < p) → from p n ≡ from (p * 10) n ++ digit_at p n
    go (yes h) = rw (lt-ltb n p h, lt-ltb n (p * 10) (omega arith))
    go (no h) = rw (le-ltb n p (omega arith)) (last-digit (n / p) ∙ ap (◌++ (digit (n / p % 10) ∷ [])) (place-above p n pos))

-- a number below 10,000
four-digits : (n : ℕ) → n < 10000 → decimal n ≡ digit_at 1000 n ++ digit_at 100 n ++ digit_at 10 n ++ (digit (n % 10) ∷ [])
unfolding from
four-digits n h =
    last-digit n ∙ ap (◌++ (digit (n % 10) ∷ []))
    (one_more 10 n (omega arith) ∙ ap (◌++ digit_at 10 n)
    (one_more 100 n (omega arith) ∙ ap (◌++ digit_at 100 n)
    (one_more 1000 n (omega arith) ∙ ap (◌++ digit_at 1000 n) none)))
  where
    none : from 10000 n ≡ []
    none = rw (lt-ltb n 10000 h)

pub digit_by_digit : (letter n : ℕ) → n < 10000
    → (letter ∷ 32 ∷ []) ++ digit_at 1000 n ++ digit_at 100 n ++ digit_at 10 n ++ (digit (n % 10) ∷ 10 ∷ []) ≡ number_line letter n
digit_by_digit letter n h =
    ap (λ s. letter ∷ 32 ∷ s)
    (sym (append_assoc (digit_at 1000 n ++ digit_at 100 n ++ digit_at 10 n) (digit (n % 10) ∷ []) (10 ∷ [])) ∙ ap (◌++ (10 ∷ [])) (sym (four-digits n h)))
