-- What the tests of a function say of the definitions that they test, one by one and in a loop. Assumes nothing.
use Prim.Native.Nat.{ℕ, ◌+◌, ◌≤◌, ◌<◌}
use mathlib.Core.Path.{◌≡◌, refl, sym, ap, ◌∙◌}
use mathlib.Core.Bool.{Bool, true, false, not}
use native.Mathlib.Numerals.{add-one}
use native.Mathlib.Omega.{arith}
use borrow.Author.Tests.{not-true, not-false}
use Rattle.model.specs.Tables.{any, sum}
use Rattle.model.proofs.Tests.{any-hit}

pub is_false : {r w : Bool} → r ≡ w → not r ≡ true → w ≡ false
is_false {r} e n = sym e ∙ not-true r n

pub is_true : {r w : Bool} → r ≡ w → not r ≡ false → w ≡ true
is_true {r} e n = sym e ∙ not-false r n

-- A loop that looks for a number below n that passes f: none below k does.
pub record None (f : ℕ → Bool) (n k : ℕ) : Type 0 where
  pub within : k ≤ n
  pub none : any k f ≡ false

module _ {f : ℕ → Bool} {n k : ℕ} where
  pub none_more : None f n k → k < n → f k ≡ false → None f n (k + 1)
  unfolding any
  none_more h l e = record { within = omega arith; none = rw (add-one k, e) h.none }

  pub found-one : None f n k → k < n → f k ≡ true → true ≡ any n f
  found-one h l e = sym (any-hit n f k l e)

  pub none_at_all : None f n k → n ≤ k → false ≡ any n f
  none_at_all h l = let z : k ≡ n = omega (arith, h.within) in sym h.none ∙ ap (λ j. any j f) z

pub none_yet : (f : ℕ → Bool) (n : ℕ) → None f n 0
unfolding any
none_yet f n = record { within = omega arith; none = refl }

pub sum_more : (f : ℕ → ℕ) (i : ℕ) → sum (i + 1) f ≡ f i + sum i f
unfolding sum
sum_more f i = rw (add-one i)
