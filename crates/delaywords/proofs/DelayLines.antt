-- The lines that answer `delay`. Assumes nothing.
use Prim.Native.Nat.{ℕ}
use mathlib.Core.Path.{◌≡◌, ap}
use mathlib.Core.List.{List}
use lib.ListN.{length, get_or}
use borrow.Author.Tests.{eq-eqb, ne_eqb}
use Rattle.delay.specs.Bounds.{Bounds, answer_for}
use Rattle.std.proofs.Math.Option.{Option}
use Rattle.model.specs.Calls.{Answer}
use Rattle.replies.specs.Lines.{cannot}
use Rattle.delaywords.specs.DelayWord.{line_for, answer_to_delay}

module _ (numbers : List ℕ) where
  pub not-four : (length numbers ≡ 4 → ⊥) → cannot "the numbers are F, links, share and burst" ≡ answer_to_delay numbers
  unfolding answer_to_delay
  not-four n = rw (ne_eqb (length numbers) 4 n)

  pub four :
      length numbers ≡ 4 → {answer : Option (Answer Bounds)} → answer ≡ answer_for (get_or numbers 0 0) (get_or numbers 1 0) (get_or numbers 2 0) (get_or numbers 3 0)
      → line_for answer ≡ answer_to_delay numbers
  unfolding answer_to_delay
  four e a = rw (eq-eqb (length numbers) 4 e) (ap line_for a)
