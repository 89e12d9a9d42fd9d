use Rattle.std.proofs.Common.{get_or, nat_eq}
use Rattle.imagemodel.specs.Image.{header_field}
use Rattle.imagecheck.proofs.TestLoops.{Passing}
use Rattle.imagecheck.proofs.links.listed.Given as goal

-- the fields so far are the same
abbrev pub invariant-loop-k : goal.invariant-loop-k
invariant-loop-k l = Passing (λ j. nat_eq (header_field l.image j) (get_or l.fn.stated j 0)) 6 l.k
