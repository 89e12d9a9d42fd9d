use Rattle.mesh.proofs.Gathered.{GatheredTo}
use Rattle.mesh.proofs.loads.gathered.Given as goal

-- the streams before stream i are added
abbrev pub invariant-loop-i : goal.invariant-loop-i
invariant-loop-i l = GatheredTo l.numbers l.count l.loads l.i
