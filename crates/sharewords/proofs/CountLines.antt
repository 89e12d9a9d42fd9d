-- The lines that answer `count`. Assumes nothing.
use Prim.Native.Nat.{ℕ}
use mathlib.Core.Path.{◌≡◌, ap}
use mathlib.Core.List.{List}
use lib.ListN.{length, get_or}
use borrow.Author.Tests.{eq-eqb, ne_eqb}
use Rattle.model.specs.Calls.{Answer}
use Rattle.shares.specs.Counts.{Counts, counted}
use Rattle.replies.specs.Lines.{cannot}
use Rattle.sharewords.specs.CountWord.{count_line, answer_to_count}

module _ (numbers : List ℕ) where
  pub not-two : (length numbers ≡ 2 → ⊥) → cannot "the numbers are F and n" ≡ answer_to_count numbers
  unfolding answer_to_count
  not-two n = rw (ne_eqb (length numbers) 2 n)

  pub two : length numbers ≡ 2 → {answer : Answer Counts} → answer ≡ counted (get_or numbers 0 0) (get_or numbers 1 0) → count_line answer ≡ answer_to_count numbers
  unfolding answer_to_count
  two e a = rw (eq-eqb (length numbers) 2 e) (ap count_line a)
