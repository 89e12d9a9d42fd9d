use Rattle.burst.proofs.Passes.{Passing}
use Rattle.burst.proofs.burst.Given as goal

-- the records that are handled, up to this one
abbrev pub invariant-loop-r : goal.invariant-loop-r
invariant-loop-r l = Passing l.fn.link l.w l.initial.r-items l.n l.state l.r-items l.r-index
