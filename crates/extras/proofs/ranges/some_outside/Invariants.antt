use Rattle.std.proofs.Common.{◌≡◌, false, not}
use Rattle.model.specs.Tables.{any}
use Rattle.extras.specs.Extras.{layer_inside, layer}
use Rattle.extras.specs.Reading.{extras_for}
use Rattle.extras.proofs.ranges.some_outside.Given as goal

-- no layer so far breaks its limits
abbrev pub invariant-loop-i : goal.invariant-loop-i
invariant-loop-i l = any l.i (λ i. not (layer_inside (layer (extras_for l.x) i))) ≡ false
