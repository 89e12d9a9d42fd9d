use Rattle.crossing.proofs.Tiles.{Walked}
use Rattle.crossing.proofs.pass_waiting.Given as goal

abbrev pub invariant-loop-i : goal.invariant-loop-i
invariant-loop-i l = Walked l.x l.w l.initial.a l.initial.b l.initial.waiting l.a l.b l.waiting l.i
