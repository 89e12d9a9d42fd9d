use Rattle.extras.specs.Best.{Best}
use Rattle.extras.specs.Reading.{extras_for}
use Rattle.extras.proofs.search.best_of.Given as goal

-- the best of the sets below a mask
abbrev pub invariant-loop-mask : goal.invariant-loop-mask
invariant-loop-mask l = Best (extras_for l.x) l.mask l.best.mask l.best.worth
