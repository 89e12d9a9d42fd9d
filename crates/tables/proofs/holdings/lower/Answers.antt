use Rattle.std.proofs.Common.{◌∙◌, arith}
use Rattle.window.proofs.Ranges.{length-mid, mid-at}
use Rattle.window.proofs.RangeLoops.{replacing-inner}
use Rattle.tables.proofs.Largest.{largest-same}
use Rattle.tables.proofs.Shifting.{bytes-mid}
use Rattle.tables.proofs.Lowered.{lowering-none, lowering-more, lowering-done}
use Rattle.tables.proofs.holdings.lower.Goals as goal

pub loop-held-init : goal.loop-held-init
loop-held-init c = lowering-none (omega arith) (omega arith) c.wrapping_neg-x.ensures

pub loop-held-preserved : goal.loop-held-preserved
loop-held-preserved c =
    let bytes = bytes-mid c.args.s.now c.args.a c.args.e (omega (arith, c.told-s)) c.fits-s in
    lowering-more (omega arith) c.loop-held.invariant bytes c.loop-held-test.true (omega arith) c.select_below.ensures c.max-most.ensures

pub returns-clause-most : goal.returns-clause-most
returns-clause-most c =
    let s = c.args in
    let most = lowering-done (omega arith) c.loop-held.invariant c.loop-held-test.false in
    rw (length-mid s.a s.e s.s.now (omega (arith, c.told-s))) at most
    ∙ largest-same _ _ _ (λ k b. rw (mid-at s.a s.e s.s.now k 0 b))

pub returns-clause-shifts : goal.returns-clause-shifts
returns-clause-shifts c =
    replacing-inner c.args.a c.args.e _ 0 c.requires.0 (omega (arith, c.told-s)) c.loop-held.invariant.shifting.replaced c.loop-held-test.false
