use Rattle.plan.proofs.FlowPart.{StoredTo}
use Rattle.plan.proofs.entries.put_entries.Given as goal

-- the entries before entry i are stored
abbrev pub invariant-loop-i : goal.invariant-loop-i
invariant-loop-i l = StoredTo l.entries l.count l.i l.initial.part l.part
