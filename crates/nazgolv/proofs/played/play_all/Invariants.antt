use Rattle.std.proofs.Common.{◌*◌}
use Rattle.nazgolv.proofs.Playing.{SoFar}
use Rattle.nazgolv.proofs.played.play_all.Given as goal

-- the first k records are played
abbrev pub invariant-loop-k : goal.invariant-loop-k
invariant-loop-k l = SoFar l.plan l.initial.s l.stream l.initial.out l.w (5 * l.k) l.s l.out l.end
