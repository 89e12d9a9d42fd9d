-- The calls up to `to` are of one kind.
use Rattle.std.proofs.Common.{◌≡◌, ℕ, ◌<◌, ◌≤◌, get_or}
use Rattle.timing.proofs.file.streak_end.Given as goal

abbrev pub invariant-loop-to : goal.invariant-loop-to
invariant-loop-to l = (k : ℕ) → l.from ≤ k → k < l.to → get_or l.kinds k 0 ≡ get_or l.kinds l.from 0
