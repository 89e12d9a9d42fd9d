use Rattle.meshwords.proofs.OverLines.{OverTo}
use Rattle.meshwords.proofs.overloads.put_over.Given as goal

-- the links at the first places are put
abbrev pub invariant-loop-k : goal.invariant-loop-k
invariant-loop-k l = OverTo l.slots l.loads l.initial.out l.out l.at l.next l.k
