use Rattle.model.specs.Tables.{bit}
use Rattle.imagecheck.specs.Flows.{grows_on}
use Rattle.imagecheck.proofs.TestLoops.{Counting}
use Rattle.imagecheck.proofs.straight.growing.Given as goal

-- the positions so far that do are counted
abbrev pub invariant-loop-k : goal.invariant-loop-k
invariant-loop-k l = Counting (λ j. bit (grows_on l.image l.owners l.held l.i j)) l.count l.k l.n
