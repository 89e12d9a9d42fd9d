-- Before a place of the piece: what has been fed and handed on, and what the output has got.
use Rattle.std.proofs.Common.{◌-◌, length, take}
use Rattle.std.specs.Io.KnownBytes.{Appends}
use Rattle.questions.specs.Feeding.{said_fed}
use Rattle.questions.specs.Promises.{line_of}
use Rattle.domeplan.proofs.Taking.{TakenTo}
use Rattle.domeplan.proofs.take.Given as goal

abbrev pub invariant-loop-at : goal.invariant-loop-at
invariant-loop-at g l = record {
  taken : TakenTo (line_of l.fn.state) l.piece l.fn.out l.at l.now l.out;
  written : Appends (g.W.Write.contents l.fn.output) (g.W.Write.contents l.output) (said_fed (line_of l.fn.state) (take l.at l.piece));
}

abbrev pub decreases-loop-at : goal.decreases-loop-at
decreases-loop-at g l = length l.piece - l.at
