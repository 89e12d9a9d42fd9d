use Rattle.std.proofs.Common.{◌≡◌, false, not}
use Rattle.model.specs.Tables.{any}
use Rattle.mesh.specs.Admission.{stream_fits}
use Rattle.mesh.specs.Reading.{stream_at}
use Rattle.mesh.proofs.entries.streams_out_of_range.Given as goal

-- no stream so far breaks its limits
abbrev pub invariant-loop-i : goal.invariant-loop-i
invariant-loop-i l = any l.i (λ i. not (stream_fits l.slots (stream_at l.numbers i))) ≡ false
