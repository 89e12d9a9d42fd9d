use Rattle.std.proofs.Common.{◌-◌, ◌≤◌, length}
use Rattle.link.specs.Given.{StateIn}
use Rattle.dometrace.proofs.pieces.play.Given as goal

abbrev pub invariant-loop-size : goal.invariant-loop-size
invariant-loop-size g l = StateIn l.plan l.w l.state × (l.used ≤ length l.bytes) × (l.end ≤ length l.out)

abbrev pub decreases-loop-size : goal.decreases-loop-size
decreases-loop-size g l = length l.bytes - l.used
