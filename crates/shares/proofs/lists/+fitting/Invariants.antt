use Rattle.std.proofs.Common.{◌≡◌, ◌≤◌}
use Rattle.shares.specs.Counts.{accepted_lists}
use Rattle.shares.proofs.lists.+fitting.Given as goal

abbrev pub decreases-fitting : goal.decreases-fitting
decreases-fitting l = l.flows

-- counted are the lists of a frame with as many slots as were gone through
abbrev pub invariant-loop-rest : goal.invariant-loop-rest
invariant-loop-rest l = (1 ≤ l.flows) × (l.count ≡ accepted_lists l.rest l.flows)
