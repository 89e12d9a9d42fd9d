use Rattle.std.proofs.Common.{◌≡◌, ◌-◌, length, length-drop, arith}
use Rattle.std.proofs.Math.Seq.{length-take-le}
use Rattle.questions.specs.Promises.{line_of}
use Rattle.questions.proofs.FedBytes.{part_of, some-taken, stands-regular}
use Rattle.domeplan.proofs.Taking.{none-taken, none-written, fed-most, one-part, one-part-written, then-lost, all-taken, all-written}
use Rattle.domeplan.proofs.take.Goals as goal

pub loop-at-init : goal.loop-at-init
loop-at-init g c = record { taken = none-taken _ _ _ (omega arith) c.requires.0; written = none-written _ _ }

pub feed-fed-requires : goal.feed-fed-requires
feed-fed-requires g c = stands-regular c.loop-at.invariant.taken.stands

pub overflow_add-at : goal.overflow_add-at
overflow_add-at g c = omega (arith, fed-most c.loop-at.invariant.taken c.feed-fed.ensures, c.well_formed)

pub returns-then-not-write-clause-takes : goal.returns-then-not-write-clause-takes
returns-then-not-write-clause-takes g c = then-lost c.loop-at.invariant.taken c.feed-fed.ensures (omega (arith, c.if-not-write.ensures.lost))

pub loop-at-smaller : goal.loop-at-smaller
loop-at-smaller g c =
    let piece = c.args.piece.now in
    let at = c.loop-at.at in
    let left : length (part_of piece at) ≡ length piece - at = length-take-le (length piece - at) _ (omega (arith, length-drop at piece)) in
    let some = some-taken (line_of c.loop-at.now) (part_of piece at) (length c.loop-at.out) (omega arith) (omega (arith, left, c.loop-at-test.true)) in
    omega (arith, some, c.feed-fed.ensures.used_is, fed-most c.loop-at.invariant.taken c.feed-fed.ensures, c.loop-at-test.true)

pub loop-at-preserved : goal.loop-at-preserved
loop-at-preserved g c =
    record {
      taken = one-part c.loop-at.invariant.taken c.feed-fed.ensures;
      written =
          one-part-written c.loop-at.invariant.taken c.feed-fed.ensures (g.W.Write.contents c.args.output.now) (g.W.Write.contents c.loop-at.output)
          (g.W.Write.contents c.write.new.output) _ c.loop-at.invariant.written c.if-not-write.ensures.written cc;
    }

pub returns-clause-takes : goal.returns-clause-takes
returns-clause-takes g c = all-taken c.loop-at.invariant.taken (omega (arith, c.loop-at.invariant.taken.most, c.loop-at-test.false))

pub returns-clause-written : goal.returns-clause-written
returns-clause-written g c = all-written _ _ _ _ _ (omega (arith, c.loop-at-test.false)) c.loop-at.invariant.written
