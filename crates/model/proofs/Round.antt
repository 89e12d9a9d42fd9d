-- Going round: remainders modulo m, and the first number from b on that has a given remainder. Assumes nothing.
use Prim.Native.Nat.{ℕ, suc, ◌+◌, ◌-◌, ◌*◌, ◌/◌, ◌%◌, ◌≤◌, ◌<◌}
use mathlib.Core.Path.{◌≡◌, sym, ap, ◌∙◌}
use native.Mathlib.Nat.{mod-lt, add-mod_right, add-mod-mod, mod-eq_of_lt, div-add-mod', mul_comm}
use native.Mathlib.Decide.{dec_lt}
use native.Mathlib.Omega.{arith}
use lib.Arith.{digits_mod, mod-mul}
use Rattle.model.specs.Tables.{ahead}

-- the first number from b on whose remainder is r
unfoldable pub first_with : ℕ → ℕ → ℕ → ℕ
first_with m b r = b + ahead m (b % m) r

module _ {m : ℕ} (some : 0 < m) where
  -- how far one of the m numbers from b on lies ahead of b, by their remainders
  pub ahead-mod : {b x : ℕ} → b ≤ x → x < b + m → ahead m (b % m) (x % m) ≡ x - b
  unfolding ahead
  ahead-mod {b} {x} low high = go (dec_lt (b % m + (x - b)) m)
    where
      y : b % m < m
      y = mod-lt b some

      d : b / m * m + b % m ≡ b
      d = div-add-mod' b m

      r : x - b < m
      r = omega arith

      go : Dec (b % m + (x - b) < m) → (x % m + m - b % m) % m ≡ x - b
      go (yes h) =
          let g : x ≡ b / m * m + (b % m + (x - b)) = omega (arith, d) in
          let e : x % m ≡ b % m + (x - b) = ap (◌% m) g ∙ digits_mod (b / m) h in
          let f : x % m + m - b % m ≡ x - b + m = omega arith in
          ap (◌% m) f ∙ add-mod_right (x - b) m ∙ mod-eq_of_lt r
      go (no h) =
          let s : b % m + (x - b) - m < m = omega (arith, y) in
          let g : x ≡ suc (b / m) * m + (b % m + (x - b) - m) = omega (arith, d) in
          let e : x % m ≡ b % m + (x - b) - m = ap (◌% m) g ∙ digits_mod (suc (b / m)) s in
          let f : x % m + m - b % m ≡ x - b = omega (arith, y) in
          ap (◌% m) f ∙ mod-eq_of_lt r

  -- two of the m numbers from b on with the same remainder are the same
  pub mod-unique : {b x y : ℕ} → b ≤ x → x < b + m → b ≤ y → y < b + m → x % m ≡ y % m → x ≡ y
  mod-unique {b} {x} {y} lx hx ly hy e =
      let f : x - b ≡ y - b = sym (ahead-mod lx hx) ∙ ap (ahead m (b % m)) e ∙ ahead-mod ly hy in
      omega arith

  pub first_with-low : (b r : ℕ) → b ≤ first_with m b r
  unfolding first_with
  first_with-low b r = omega arith

  pub first_with-high : (b r : ℕ) → first_with m b r < b + m
  unfolding first_with ahead
  first_with-high b r = omega (arith, mod-lt (r + m - b % m) some)

  pub first_with-mod : (b r : ℕ) → r < m → first_with m b r % m ≡ r
  unfolding first_with ahead
  first_with-mod b r h =
      let e : b + (r + m - b % m) ≡ suc (b / m) * m + r = omega (arith, mod-lt b some, div-add-mod' b m) in
      add-mod-mod b (r + m - b % m) m ∙ ap (◌% m) e ∙ digits_mod (suc (b / m)) h

  -- it is x where x is one of the m numbers from b on, and it never comes after x
  pub first_with-is : (b x : ℕ) → b ≤ x → x < b + m → first_with m b (x % m) ≡ x
  unfolding first_with
  first_with-is b x low high = omega (arith, ahead-mod low high)

  pub first_with-first : (b x : ℕ) → b ≤ x → first_with m b (x % m) ≤ x
  first_with-first b x low = go (dec_lt x (b + m))
    where
      go : Dec (x < b + m) → first_with m b (x % m) ≤ x
      go (yes h) = omega (arith, first_with-is b x low h)
      go (no h) = omega (arith, first_with-high b (x % m))

-- a remainder modulo F × W, by its quotient and remainder modulo F
pub split-position : {F W : ℕ} → 0 < F → 0 < W → (s : ℕ) → s % (F * W) ≡ s / F % W * F + s % F
split-position {F} {W} some_slot some-frame s = ap (s %◌) (mul_comm F W) ∙ mod-mul s some-frame some_slot
