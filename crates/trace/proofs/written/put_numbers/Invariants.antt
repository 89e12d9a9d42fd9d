-- The numbers so far are written.
use Rattle.trace.proofs.Numbers.{NumbersTo}
use Rattle.trace.proofs.written.put_numbers.Given as goal

abbrev pub invariant-loop-number : goal.invariant-loop-number
invariant-loop-number l = NumbersTo l.numbers l.fn.out l.out l.at l.next l.number-index
