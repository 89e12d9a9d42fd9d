use Rattle.std.proofs.Common.{◌+◌, ◌*◌}
use Rattle.imagecodec.specs.Writing.{parts_of}
use Rattle.imagecodec.proofs.WrittenParts.{PuttingParts}
use Rattle.imagecodec.proofs.writing.put_flows.Given as goal

-- the parts so far are written
abbrev pub invariant-loop-i : goal.invariant-loop-i
invariant-loop-i l = PuttingParts (parts_of l.size l.s) (2 * (3 + l.size)) l.count l.initial.image l.image l.at l.next l.i
