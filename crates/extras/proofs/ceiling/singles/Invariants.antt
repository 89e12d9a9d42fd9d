use Rattle.std.proofs.Common.{cond, leb}
use Rattle.extras.specs.Extras.{layer_count, layer}
use Rattle.extras.specs.Reading.{extras_for}
use Rattle.extras.proofs.Summing.{Summed}
use Rattle.extras.proofs.ceiling.singles.Given as goal

-- the sum so far, at most 1,000 for a layer
abbrev pub invariant-loop-i : goal.invariant-loop-i
invariant-loop-i l =
    Summed (λ i. cond (leb (layer (extras_for l.x) i).share l.x.slots) (layer (extras_for l.x) i).worth 0) 1000 (layer_count (extras_for l.x)) l.i l.worth
