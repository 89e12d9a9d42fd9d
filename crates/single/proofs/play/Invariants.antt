use Rattle.std.proofs.Common.{◌-◌, ◌≤◌}
use Rattle.single.proofs.play.Given as goal

abbrev pub invariant-loop-from : goal.invariant-loop-from
invariant-loop-from g l = l.from ≤ l.calls.count

abbrev pub decreases-loop-from : goal.decreases-loop-from
decreases-loop-from g l = l.calls.count - l.from
