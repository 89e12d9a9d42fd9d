use Rattle.std.proofs.Common.{◌*◌}
use Rattle.playback.proofs.SoFar.{SoFar}
use Rattle.playback.proofs.play.Given as goal

-- the first k records are played
abbrev pub invariant-loop-k : goal.invariant-loop-k
invariant-loop-k l = SoFar l.fn.link l.records l.initial.out (5 * l.count) (5 * l.k) l.state l.w l.out l.end
