use Rattle.std.proofs.Common.{◌≡◌, false, get_or, ltb}
use Rattle.model.specs.Tables.{any}
use Rattle.mesh.proofs.loads.any_over.Given as goal

-- no load so far is above F
abbrev pub invariant-loop-load : goal.invariant-loop-load
invariant-loop-load l = any l.load-index (λ k. ltb l.slots (get_or l.loads k 0)) ≡ false
