-- No call is counted twice.
use Rattle.std.proofs.Common.{◌-◌, ◌≤◌}
use Rattle.timing.proofs.report.total.Given as goal

abbrev pub invariant-loop-from : goal.invariant-loop-from
invariant-loop-from l = (l.from ≤ l.count) × (l.calls ≤ l.from)

abbrev pub decreases-loop-from : goal.decreases-loop-from
decreases-loop-from l = l.count - l.from
