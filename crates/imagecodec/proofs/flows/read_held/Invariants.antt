use Rattle.imagecodec.proofs.ReadHoldings.{ReadingRows}
use Rattle.imagecodec.proofs.flows.read_held.Given as goal

abbrev pub invariant-loop-i : goal.invariant-loop-i
invariant-loop-i l = ReadingRows l.image l.l l.initial.s l.s l.i
