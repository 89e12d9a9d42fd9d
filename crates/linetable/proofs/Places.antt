-- The line at each place, for those who write it: that of a granted position, and that of a tick. Assumes nothing.
use Prim.Native.Nat.{ℕ, ◌+◌, ◌-◌, ◌<◌}
use mathlib.Core.Path.{◌≡◌, ◌∙◌}
use mathlib.Core.List.{List}
use mathlib.Core.Option.{some, none}
use native.Mathlib.Omega.{arith}
use lib.ListN.{get_or}
use borrow.Author.Tests.{lt-ltb, le-ltb}
use Rattle.model.specs.Listing.{decimal, line, tick_line}
use Rattle.linetable.specs.declared.Line.{Line}
use Rattle.linetable.specs.Lines.{text_of, line_at, no_line, AllLines}
use Rattle.linetable.proofs.Texts.{kept-text}

module _ {all : List Line} (v : AllLines all) where
  text_at : (k : ℕ) → k < 273 → text_of (get_or all k no_line) ≡ line_at k
  text_at k h = kept-text (line_at k) (get_or all k no_line) (v.kept k h)

  pub granted-line : (p : ℕ) → p < 256 → text_of (get_or all p no_line) ≡ line "G" (decimal p)
  unfolding line_at
  granted-line p h = text_at p (omega arith) ∙ rw (lt-ltb p 256 h)

  pub turn-line : (f : ℕ) → f < 16 → text_of (get_or all (256 + f) no_line) ≡ tick_line (some f)
  unfolding line_at
  turn-line f h =
      let place : 256 + f - 256 ≡ f = omega arith in
      text_at (256 + f) (omega arith) ∙ rw (le-ltb (256 + f) 256 (omega arith), lt-ltb (256 + f) 272 (omega arith), place)

  pub idle-line : text_of (get_or all 272 no_line) ≡ tick_line none
  unfolding line_at
  idle-line = text_at 272 (omega arith)
