-- A byte moved by a number modulo 256: by its sum, by nothing, one up and one down. Assumes nothing.
use Rattle.std.proofs.Common.{◌≡◌, ℕ, suc, ◌+◌, ◌-◌, ◌%◌, ◌<◌, cond, eqb, ltb, refl, arith, le-ltb, lt-ltb, eq-eqb, ne_eqb}
use native.Mathlib.Decide.{dec_lt, ℕ_discrete}
use Rattle.window.specs.Bytes.{wrapped}

pub wrapped-is : (by x : ℕ) → by < 256 → x < 256 → (x + by) % 256 ≡ wrapped by x
unfolding wrapped
wrapped-is by x hb hx = go (ℕ_discrete by 0) (dec_lt (x + by) 256)
  where
    go : Dec (by ≡ 0) → Dec (x + by < 256) → (x + by) % 256 ≡ cond (eqb by 0) x (cond (ltb (x + by) 256) (x + by) (x + by - 256))
    go (yes z) h = rw (eq-eqb by 0 z) (omega arith)
    go (no z) (yes h) = rw (ne_eqb by 0 z, lt-ltb (x + by) 256 h) (omega arith)
    go (no z) (no h) = rw (ne_eqb by 0 z, le-ltb (x + by) 256 (omega arith)) (omega arith)

-- by 0
pub wrapped-not : (x : ℕ) → wrapped 0 x ≡ x
unfolding wrapped
wrapped-not x = refl

pub wrapped-up : (x : ℕ) → x < 255 → wrapped 1 x ≡ suc x
unfolding wrapped
wrapped-up x h = rw (lt-ltb (x + 1) 256 (omega arith)) (omega arith)

pub wrapped-down : (x : ℕ) → 0 < x → wrapped 255 x ≡ x - 1
unfolding wrapped
wrapped-down x h = rw (le-ltb (x + 255) 256 (omega arith)) (omega arith)
