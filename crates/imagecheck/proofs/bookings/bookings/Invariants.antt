use Rattle.std.proofs.Common.{◌+◌, ◌*◌}
use Rattle.imagecheck.specs.Flows.{booking_at}
use Rattle.imagecheck.proofs.TestLoops.{Counting}
use Rattle.imagecheck.proofs.bookings.bookings.Given as goal

-- the bookings so far are counted
abbrev pub invariant-loop-x : goal.invariant-loop-x
invariant-loop-x l = Counting (λ k. booking_at l.image l.i (l.at + 2 * k)) l.slots l.x l.n
