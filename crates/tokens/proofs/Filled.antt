-- An array that is filled from its start on, element by element. Assumes nothing.
use Prim.Native.Nat.{ℕ, ◌+◌, ◌≤◌, ◌<◌}
use mathlib.Core.Path.{◌≡◌, sym, ap, ◌∙◌}
use mathlib.Core.List.{List}
use native.Mathlib.Decide.{ℕ_discrete}
use native.Mathlib.Omega.{arith}
use lib.ListN.{length, get_or, set, length-set}
use lib.Seq.{get_or-set_same, get_or-set_other}

-- the first i of n elements are f 0, f 1 and so on; d is what stands past the end
pub record FilledTo {A : Type 0} (f : ℕ → A) (d : A) (n : ℕ) (all : List A) (i : ℕ) : Type 0 where
  pub most : i ≤ n
  pub long : length all ≡ n
  pub at : (k : ℕ) → k < i → get_or all k d ≡ f k

pub none_filled : {A : Type 0} (f : ℕ → A) (d : A) (n : ℕ) (all : List A) → length all ≡ n → FilledTo f d n all 0
none_filled f d n all h = record { most = omega arith; long = h; at = λ k l. absurd (omega arith) }

module _ {A : Type 0} {f : ℕ → A} {d : A} {n i : ℕ} {all : List A} (s : FilledTo f d n all i) where
  pub one-filled : {a : A} → i < n → a ≡ f i → FilledTo f d n (set all i a) (i + 1)
  one-filled {a} h e = record { most = omega arith; long = length-set all i a ∙ s.long; at = λ k l. go k l (ℕ_discrete k i) }
    where
      go : (k : ℕ) → k < i + 1 → Dec (k ≡ i) → get_or (set all i a) k d ≡ f k
      go k l (yes z) = ap (λ j. get_or (set all i a) j d) z ∙ get_or-set_same all i a d (omega (arith, s.long)) ∙ e ∙ ap f (sym z)
      go k l (no z) = get_or-set_other all i k a d z ∙ s.at k (omega arith)
