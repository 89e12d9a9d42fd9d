use Rattle.tables.proofs.CarriedRows.{Carrying}
use Rattle.tables.proofs.holdings.carry.Given as goal

abbrev pub invariant-loop-i : goal.invariant-loop-i
invariant-loop-i l = Carrying l.count l.last l.a l.e l.initial.s l.s l.i
