use Rattle.std.proofs.Common.{◌-◌}
use Rattle.link.proofs.Takers.{Looking}
use Rattle.link.proofs.lend.taker.Given as goal

abbrev pub invariant-loop : goal.invariant-loop
invariant-loop l = Looking l.plan l.w l.s l.mask l.from (l.end - l.counter) l.i
