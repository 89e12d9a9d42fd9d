use Rattle.std.proofs.Common.{arith}
use Rattle.window.proofs.Ranges.{length-mid, mid-at}
use Rattle.window.proofs.RangeLoops.{all-inner}
use Rattle.tables.proofs.Largest.{largest-to-none, largest-to-more, room-to-done}
use Rattle.tables.proofs.holdings.room_in.Goals as goal

pub loop-held-init : goal.loop-held-init
loop-held-init c = largest-to-none _

pub loop-held-preserved : goal.loop-held-preserved
loop-held-preserved c = largest-to-more c.loop-held.invariant c.loop-held-test.true c.max-most.ensures

pub returns : goal.returns
returns c =
    let s = c.args in
    let long = length-mid s.a s.e s.s.now (omega (arith, c.told-s)) in
    all-inner s.a s.e s.s.now (omega arith) (omega (arith, c.told-s)) (λ k b. rw (mid-at s.a s.e s.s.now k 0 b))
    (room-to-done c.loop-held.invariant (omega arith) c.loop-held-test.false s.cells)
