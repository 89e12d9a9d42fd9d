use Rattle.tables.proofs.Lowered.{Lowering}
use Rattle.tables.proofs.holdings.lower.Given as goal

abbrev pub invariant-loop-held : goal.invariant-loop-held
invariant-loop-held l = Lowering l.base l.from l.initial.held-items l.held-items l.most l.held-index l.x
