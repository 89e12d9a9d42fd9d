use Rattle.std.proofs.Common.{cond, get_or}
use Rattle.model.specs.Calls.{in_mask}
use Rattle.extras.proofs.Summing.{Summed}
use Rattle.extras.proofs.sets.sum_over.Given as goal

-- the sum so far, at most 1,000 for a layer
abbrev pub invariant-loop-i : goal.invariant-loop-i
invariant-loop-i l = Summed (λ i. cond (in_mask l.mask i) (get_or l.amounts i 0) 0) 1000 l.count l.i l.sum
