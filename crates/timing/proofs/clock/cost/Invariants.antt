-- The lowest is in range.
use Rattle.std.proofs.Common.{◌≤◌}
use Rattle.timing.proofs.clock.cost.Given as goal

abbrev pub invariant-loop : goal.invariant-loop
invariant-loop g l = l.lowest ≤ 4294967295999999999
