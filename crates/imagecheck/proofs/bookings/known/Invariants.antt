use Rattle.model.specs.Tables.{bit}
use Rattle.imagemodel.specs.Image.{field_at, owner_in}
use Rattle.imagemodel.specs.Consistent as images
use Rattle.imagecheck.proofs.TestLoops.{Counting}
use Rattle.imagecheck.proofs.bookings.known.Given as goal

-- the owners so far that are known are counted
abbrev pub invariant-loop-p : goal.invariant-loop-p
invariant-loop-p l = Counting (λ k. bit (images.known l.flows (owner_in (field_at l.image l.at k)))) l.size l.p l.n
