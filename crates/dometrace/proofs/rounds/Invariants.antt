use Rattle.std.proofs.Common.{◌≤◌, length}
use Rattle.dometrace.proofs.rounds.Given as goal

abbrev pub invariant-loop : goal.invariant-loop
invariant-loop g l = l.now.kept ≤ length l.space
