use Rattle.std.proofs.Common.{ℕ, ◌<◌, ◌≡◌, get_or, ltb, false}
use Rattle.faultwords.proofs.words.some_long.Given as goal

-- no number that was looked at is too long
abbrev pub invariant-loop-n : goal.invariant-loop-n
invariant-loop-n l = (k : ℕ) → k < l.n-index → ltb 999999999 (get_or l.numbers k 0) ≡ false
