use Rattle.std.proofs.Common.{ℕ, ◌+◌, ◌*◌, ◌<◌, ◌≡◌, get_or, ltb, false}
use Rattle.programmewords.proofs.programmes.any_wide.Given as goal

-- no entry that was looked at has a wide plan
abbrev pub invariant-loop-i : goal.invariant-loop-i
invariant-loop-i l = (k : ℕ) → k < l.i → ltb 65535 (get_or l.numbers (1 + 3 * k + 2) 0) ≡ false
