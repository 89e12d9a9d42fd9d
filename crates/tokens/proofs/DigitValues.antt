-- The value of digits, added up one by one. Assumes nothing.
use Prim.Native.Nat.{ℕ, ◌+◌, ◌-◌, ◌*◌, ◌^◌, ◌≤◌, ◌<◌}
use mathlib.Core.Path.{◌≡◌, refl, sym, ap, ◌∙◌}
use mathlib.Core.List.{List}
use native.Mathlib.Nat.{pow-suc}
use native.Mathlib.Numerals.{add-one}
use native.Mathlib.Omega.{arith}
use lib.ListN.{length, get_or, drop, drop_of_length-le}
use Rattle.tokens.specs.Decimal.{value_from}
use Rattle.tokens.proofs.FromPlace.{from_place}

-- the digits before a place have this value: with what is left it makes the whole value
pub record ValueTo (l : List ℕ) (value i : ℕ) : Type 0 where
  pub most : i ≤ length l
  pub small : value + 23 ≤ 23 * 10 ^ i
  pub rest : value_from value (drop i l) ≡ value_from 0 l

pub no-digits : (l : List ℕ) → ValueTo l 0 0
no-digits l = record { most = omega arith; small = omega arith; rest = refl }

module _ {l : List ℕ} {value i : ℕ} (s : ValueTo l value i) where
  pub one-digit : {d : ℕ} → i < length l → d ≡ get_or l i 0 - 48 → d ≤ 207 → ValueTo l (value * 10 + d) (i + 1)
  unfolding value_from
  one-digit {d} h e most = record {
    most = omega arith;
    small = omega (arith, s.small, ap (10 ^◌) (add-one i), pow-suc 10 i);
    rest = ap (λ x. value_from (value * 10 + x) (drop (i + 1) l)) e ∙ sym (ap (value_from value) (from_place l i h)) ∙ s.rest;
  }

  pub all_digits : length l ≤ i → value ≡ value_from 0 l
  unfolding value_from
  all_digits h = sym (ap (value_from value) (drop_of_length-le l h)) ∙ s.rest
