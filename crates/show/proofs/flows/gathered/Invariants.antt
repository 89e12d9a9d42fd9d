use Rattle.show.proofs.LinkFlows.{Gathered}
use Rattle.show.proofs.flows.gathered.Given as goal

-- the flows of the first streams are gathered
abbrev pub invariant-loop-i : goal.invariant-loop-i
invariant-loop-i l = Gathered l.numbers l.cells l.k l.count l.initial.draft l.draft l.i
