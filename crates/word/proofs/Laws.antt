-- Each number below 2 to the power 32 is a word in exactly one way. RULES 5.1. Assumes nothing.
use Prim.Native.Nat.{ℕ, ◌<◌, ◌^◌}
use mathlib.Core.Path.{◌≡◌}
use Rattle.std.specs.Prelude.{Some}
use Rattle.model.specs.Word.{split}
use Rattle.model.proofs.Word.{join-split, split-is-fitting}
use Rattle.word.specs.Reading.{joined_of}

pub joins-back : (w : ℕ) → w < 2 ^ 32 → joined_of (split w) ≡ Some w
unfolding joined_of
joins-back w h = rw (split-is-fitting w, join-split w h)
