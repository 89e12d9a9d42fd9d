use Rattle.tables.specs.Owners.{everywhere}
use Rattle.tables.proofs.Rows.{Storing}
use Rattle.tables.proofs.holdings.hold_nothing.Given as goal

abbrev pub invariant-loop-i : goal.invariant-loop-i
invariant-loop-i l = Storing (everywhere 0) l.initial.s l.s l.i
