use Rattle.std.proofs.Common.{nat_le}
use Rattle.model.specs.Tables.{bit}
use Rattle.imagemodel.specs.Image.{field_at}
use Rattle.imagecheck.proofs.TestLoops.{Counting}
use Rattle.imagecheck.proofs.straight.at_most.Given as goal

-- those fields so far that are at most the number are counted
abbrev pub invariant-loop-p : goal.invariant-loop-p
invariant-loop-p l = Counting (λ k. bit (nat_le (field_at l.image l.at k) l.most)) l.count l.p l.n
