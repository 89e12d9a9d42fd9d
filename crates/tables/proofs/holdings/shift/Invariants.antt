use Rattle.tables.proofs.Shifting.{Shifting}
use Rattle.tables.proofs.holdings.shift.Given as goal

abbrev pub invariant-loop-held : goal.invariant-loop-held
invariant-loop-held l = Shifting l.base l.from l.late l.initial.held-items l.held-items l.held-index l.x
