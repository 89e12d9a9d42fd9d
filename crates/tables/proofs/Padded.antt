-- A byte that counts the places of a row round 256 tells the early ones from the late ones; and the least of bytes, some of them padded.
-- Assumes nothing.
use Prim.Native.Nat.{ℕ, ◌+◌, ◌%◌, ◌<◌, min}
use mathlib.Core.Path.{◌≡◌, ap, ◌∙◌}
use mathlib.Core.Bool.{Bool, cond}
use native.Mathlib.Decide.{dec_lt}
use native.Mathlib.Omega.{arith}
use lib.Dec.{ltb}
use borrow.Author.Tests.{lt-ltb, le-ltb}
use Rattle.window.proofs.RangeLoops.{Testing, testing-miss, testing-pass}
use Rattle.tables.specs.Padded.{on_from, pad}

-- ---- a byte that counts

-- x is how far place k lies on from base, going round 256
pub record Counting (base k x : ℕ) : Type 0 where
  pub is : x ≡ on_from base k

pub counting-first : (base x : ℕ) → base < 256 → x < 256 → (x + base) % 256 ≡ 0 → Counting base 0 x
counting-first base x h b e = record { is = omega arith }

module _ {base k x : ℕ} (v : Counting base k x) where
  pub counting-on : base < 256 → Counting base (k + 1) ((x + 1) % 256)
  counting-on low = let e = v.is in record { is = omega arith }

  -- it tells which of the two the place is
  pub counted-pad : (from early late : ℕ) → cond (ltb x from) early late ≡ pad base from early late k
  counted-pad from early late = ap (λ y. cond (ltb y from) early late) v.is

-- ---- the least of bytes: above 0 while each of them is

module _ {t : ℕ → Bool} {a e q : ℕ} (least : ℕ) (v : Testing t a e q (ltb 0 least)) (h : q < e) where
  pub testing-least : (x : ℕ) → t q ≡ ltb 0 x → Testing t a e (q + 1) (ltb 0 (min least x))
  testing-least x z = go (dec_lt 0 x)
    where
      same-least : 0 < x → Dec (0 < least) → ltb 0 (min least x) ≡ ltb 0 least
      same-least l (yes d) = rw (lt-ltb 0 (min least x) (omega arith), lt-ltb 0 least d)
      same-least l (no d) = rw (le-ltb 0 (min least x) (omega arith), le-ltb 0 least (omega arith))

      go : Dec (0 < x) → Testing t a e (q + 1) (ltb 0 (min least x))
      go (yes d) = testing-pass v h (z ∙ lt-ltb 0 x d) (same-least d (dec_lt 0 least))
      go (no d) = testing-miss v h (z ∙ le-ltb 0 x (omega arith)) (le-ltb 0 (min least x) (omega arith))
