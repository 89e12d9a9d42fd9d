use Rattle.window.proofs.RangeLoops.{SearchingBack}
use Rattle.tables.specs.Holdings.{room_at}
use Rattle.tables.proofs.holdings.last_full.Given as goal

abbrev pub invariant-loop-q : goal.invariant-loop-q
invariant-loop-q l = SearchingBack (room_at l.s l.cells) l.a l.e l.q
