-- The numbers of a show, by the tests on the way. Assumes nothing.
use Prim.Native.Nat.{ℕ, ◌+◌, ◌-◌, ◌*◌, ◌%◌, ◌≤◌, ◌<◌}
use mathlib.Core.Path.{◌≡◌, ap, ◌∙◌}
use mathlib.Core.List.{List}
use native.Mathlib.Omega.{arith}
use lib.ListN.{length, take, drop, length-drop}
use lib.Seq.{take_all}
use borrow.Author.Tests.{lt-ltb, le-ltb, eq-eqb, ne_eqb}
use Rattle.replies.specs.Lines.{cannot}
use Rattle.show.specs.Reading.{show_of}
use Rattle.showwords.specs.Answers.{show_lines, streams_asked, dome_asked, answer_to_show}

module _ (numbers : List ℕ) where
  pub header-missing : length numbers < 3 → cannot "F, W or N is missing" ≡ answer_to_show numbers
  unfolding answer_to_show
  header-missing h = rw (lt-ltb (length numbers) 3 h)

  pub no-fives : 3 ≤ length numbers → ((length numbers - 3) % 5 ≡ 0 → ⊥)
      → cannot "each stream has a source, a destination and a share, and cells twice: the numbers after N are no multiple of five" ≡ answer_to_show numbers
  unfolding answer_to_show
  no-fives h odd = rw (le-ltb (length numbers) 3 h, ne_eqb ((length numbers - 3) % 5) 0 odd)

  -- the parts of the numbers, as they are lent
  pub whole-show : 3 ≤ length numbers → (length numbers - 3) % 5 ≡ 0 → (cells : ℕ) → cells ≡ 3 + 3 * streams_asked numbers
      → show_lines (show_of (dome_asked numbers) (take (cells - 3) (drop 3 numbers)) (take (length numbers - cells) (drop cells numbers))) ≡ answer_to_show numbers
  unfolding answer_to_show
  whole-show h fives cells e =
      let many : cells - 3 ≡ 3 * streams_asked numbers = omega arith in
      let rest = take_all (length numbers - cells) (drop cells numbers) (omega (arith, length-drop cells numbers)) ∙ ap (λ n. drop n numbers) e in
      (λ k. show_lines (show_of (dome_asked numbers) (take (many k) (drop 3 numbers)) (rest k)))
      ∙ rw (le-ltb (length numbers) 3 h, eq-eqb ((length numbers - 3) % 5) 0 fives)
