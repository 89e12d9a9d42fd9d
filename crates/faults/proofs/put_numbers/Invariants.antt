use Rattle.faults.proofs.ToldLines.{PutTo}
use Rattle.faults.proofs.put_numbers.Given as goal

abbrev pub invariant-loop-n : goal.invariant-loop-n
invariant-loop-n l = PutTo l.numbers l.initial.out l.out l.at l.next l.n-index
