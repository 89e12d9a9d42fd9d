use Rattle.planwords.proofs.DraftsAsked.{TakenTo}
use Rattle.planwords.proofs.plans.entries.Given as goal

-- the first flows are taken
abbrev pub invariant-loop-i : goal.invariant-loop-i
invariant-loop-i l = TakenTo l.numbers l.all l.i
