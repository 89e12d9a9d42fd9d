use Rattle.planwords.proofs.SpacedNumbers.{EntriesTo}
use Rattle.planwords.proofs.reads.put_entries.Given as goal

-- the first entries are put
abbrev pub invariant-loop-e : goal.invariant-loop-e
invariant-loop-e l = EntriesTo l.fn.entries l.initial.out l.out l.at l.next l.e-index
