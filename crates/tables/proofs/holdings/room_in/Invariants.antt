use Rattle.tables.proofs.Largest.{LargestTo}
use Rattle.tables.proofs.holdings.room_in.Given as goal

abbrev pub invariant-loop-held : goal.invariant-loop-held
invariant-loop-held l = LargestTo l.held-items l.held-index l.most
