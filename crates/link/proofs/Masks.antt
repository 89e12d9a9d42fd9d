-- Whether a mask has a bit at n or above. Assumes nothing.
use Prim.Native.Nat.{ℕ, zero, suc, ◌/◌, ◌^◌, ◌<◌}
use mathlib.Core.Path.{◌≡◌}
use mathlib.Core.Bool.{true, false}
use native.Mathlib.Nat.{div-eq_of_lt, div-lt_iff_lt-mul, pow-suc}
use native.Mathlib.Decide.{dec_lt}
use native.Mathlib.Omega.{arith}
use lib.Dec.{leb}
use borrow.Author.Tests.{le-leb, lt-leb}

some-power : (n : ℕ) → 0 < 2 ^ n
some-power zero = omega arith
some-power (suc n) = omega (arith, pow-suc 2 n, some-power n)

module _ (mask n : ℕ) where
  pub bit-above : (mask / 2 ^ n ≡ 0 → ⊥) → leb (2 ^ n) mask ≡ true
  bit-above some = go (dec_lt mask (2 ^ n))
    where
      go : Dec (mask < 2 ^ n) → leb (2 ^ n) mask ≡ true
      go (yes h) = absurd (some (div-eq_of_lt h))
      go (no h) = le-leb (2 ^ n) mask (omega arith)

  pub no-bit-above : mask / 2 ^ n ≡ 0 → leb (2 ^ n) mask ≡ false
  no-bit-above none = lt-leb (2 ^ n) mask (omega (arith, (div-lt_iff_lt-mul {k = 2 ^ n} {x = mask} {y = 1} (some-power n)).0 (omega arith)))
