use Rattle.std.proofs.Common.{length}
use Rattle.tables.specs.Owners.{unbooked_at}
use Rattle.window.proofs.RangeLoops.{Testing}
use Rattle.tables.proofs.owners.unbooked_in.Given as goal

abbrev pub invariant-loop-owner : goal.invariant-loop-owner
invariant-loop-owner l = Testing (unbooked_at l.owner-items) 0 (length l.owner-items) l.owner-index l.all
