-- What the parts of `feed` ask for and promise. Assumes nothing.
use Rattle.std.specs.Prelude.{ℕ, ◌+◌, ◌≤◌, ◌≡◌, List, length}
use Rattle.calls.specs.Lines.{Puts}
use Rattle.replies.specs.Lines.{room}
use Rattle.questions.specs.declared.Progress.{Progress}
use Rattle.questions.specs.Feeding.{line_with, said_with}
use Rattle.questions.specs.Promises.{Holds}

-- so many bytes of an array of 4,001 are kept
pub record Keeps (bytes : List ℕ) (count : ℕ) : Type 0 where
  pub long : length bytes ≡ 4001
  pub most : count ≤ 4001

-- and the longest answer has room from a place on
pub record Ready (bytes : List ℕ) (count : ℕ) (out : List ℕ) (at : ℕ) : Type 0 where
  pub keeps : Keeps bytes count
  pub has_room : at + room ≤ length out

-- A byte is taken: the line after it is held, and what is said for it stands in what was `out` from `at` on.
pub record TakesByte (line : List ℕ) (byte : ℕ) (out : List ℕ) (at : ℕ) (r : Progress) (bytes' out' : List ℕ) : Type 0 where
  pub holds : Holds bytes' r.count (line_with line byte)
  pub puts : Puts (said_with line byte) out out' at r.written
  pub fits : r.written ≤ length out
