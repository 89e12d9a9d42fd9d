-- Laws of tests: and, or, a test of some number below a bound, and the lines of a table of refusals. Assumes nothing.
use Prim.Native.Nat.{ℕ, zero, suc, ◌≤◌, ◌<◌}
use mathlib.Core.Path.{◌≡◌, refl, sym, ap, ◌∙◌}
use mathlib.Core.List.{List, ◌∷◌}
use mathlib.Core.Bool.{Bool, true, false, not, ◌&&◌, ◌||◌}
use native.Mathlib.Decide.{dec_lt}
use native.Mathlib.Omega.{arith}
use borrow.Author.Tests.{leb-true, not-false}
use Rattle.model.specs.Tables.{any, within}
use Rattle.model.specs.Refusals.{Line, ◌when◌, first_of}

pub and-true : (a b : Bool) → a && b ≡ true → (a ≡ true) × (b ≡ true)
and-true true b e = (refl, e)
and-true false b e = (cc, cc)

pub and-false : (a : Bool) → a && false ≡ false
and-false true = refl
and-false false = refl

pub or-false : (a b : Bool) → a || b ≡ false → (a ≡ false) × (b ≡ false)
or-false true b e = (e, cc)
or-false false b e = (refl, e)

pub or-true : (a b : Bool) → b ≡ true → a || b ≡ true
or-true true b e = refl
or-true false b e = e

-- two tests of which each passes where the other does
pub same_truth : (a b : Bool) → (a ≡ true → b ≡ true) → (b ≡ true → a ≡ true) → a ≡ b
same_truth true b to from = sym (to refl)
same_truth false true to from = from refl
same_truth false false to from = refl

pub within-true : (low high x : ℕ) → within low high x ≡ true → (low ≤ x) × (x ≤ high)
within-true low high x e = let p = and-true _ _ e in (leb-true low x p.0, leb-true x high p.1)

-- a range whose test is passed by its negation being false
pub in-range : (low high x : ℕ) → not (within low high x) ≡ false → (low ≤ x) × (x ≤ high)
in-range low high x e = within-true low high x (not-false (within low high x) e)

-- no number below n passes f
pub any_none : (n : ℕ) (f : ℕ → Bool) → any n f ≡ false → (k : ℕ) → k < n → f k ≡ false
unfolding any
any_none zero f e k h = absurd (omega arith)
any_none (suc n) f e k h = let p = or-false (f n) (any n f) e in go (λ l. any_none n f p.1 k l) p.0 (dec_lt k n)
  where
    go : (k < n → f k ≡ false) → f n ≡ false → Dec (k < n) → f k ≡ false
    go rest last (yes l) = rest l
    go rest last (no l) = let z : k ≡ n = omega arith in ap f z ∙ last

pub any-of-none : (n : ℕ) (f : ℕ → Bool) → ((k : ℕ) → k < n → f k ≡ false) → any n f ≡ false
unfolding any
any-of-none zero f None-passes = refl
any-of-none (suc n) f None-passes = rw (None-passes n (omega arith)) (any-of-none n f (λ k l. None-passes k (omega arith)))

pub any_same : (n : ℕ) (f g : ℕ → Bool) → ((k : ℕ) → k < n → f k ≡ g k) → any n f ≡ any n g
unfolding any
any_same zero f g h = refl
any_same (suc n) f g h = rw (h n (omega arith)) (ap (g n ||◌) (any_same n f g (λ k l. h k (omega arith))))

-- some number below n passes f
pub any-hit : (n : ℕ) (f : ℕ → Bool) (k : ℕ) → k < n → f k ≡ true → any n f ≡ true
unfolding any
any-hit zero f k h e = absurd (omega arith)
any-hit (suc n) f k h e = go (λ l. any-hit n f k l e) (dec_lt k n)
  where
    go : (k < n → any n f ≡ true) → Dec (k < n) → f n || any n f ≡ true
    go rest (yes l) = or-true (f n) (any n f) (rest l)
    go rest (no l) = let z : n ≡ k = omega arith in rw (ap f z ∙ e)

-- a table of refusals that gives 0, whose first number is not 0
pub line-passed : (b : Bool) (r : ℕ) (rest : List Line) → first_of (suc r when b ∷ rest) ≡ 0 → (b ≡ false) × (first_of rest ≡ 0)
unfolding first_of
line-passed true r rest e = absurd (omega arith)
line-passed false r rest e = (refl, e)
