use Rattle.tokens.proofs.DigitValues.{ValueTo}
use Rattle.tokens.proofs.decimal.value.Given as goal

abbrev pub invariant-loop-byte : goal.invariant-loop-byte
invariant-loop-byte l = ValueTo l.piece l.value l.byte-index
