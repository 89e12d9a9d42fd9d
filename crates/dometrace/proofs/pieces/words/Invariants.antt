use Rattle.std.proofs.Common.{◌+◌, ◌*◌, ◌≤◌}
use Rattle.link.specs.Given.{StateIn}
use Rattle.dometrace.proofs.pieces.words.Given as goal

abbrev pub invariant-loop-k : goal.invariant-loop-k
invariant-loop-k l = StateIn l.fn.plan l.on l.s × (l.end ≤ l.at + 2048 * l.k)
