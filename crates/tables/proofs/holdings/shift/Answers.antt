use Rattle.std.proofs.Common.{arith}
use Rattle.window.proofs.RangeLoops.{replacing-inner}
use Rattle.tables.proofs.Shifting.{bytes-mid, shifting-none, shifting-more}
use Rattle.tables.proofs.holdings.shift.Goals as goal

pub loop-held-init : goal.loop-held-init
loop-held-init c = shifting-none (omega arith) (omega arith) c.wrapping_neg-x.ensures

pub loop-held-preserved : goal.loop-held-preserved
loop-held-preserved c =
    let bytes = bytes-mid c.args.s.now c.args.a c.args.e (omega (arith, c.told-s)) c.fits-s in
    shifting-more (omega arith) bytes c.loop-held.invariant c.loop-held-test.true (omega arith) c.select_below.ensures

pub returns : goal.returns
returns c = replacing-inner c.args.a c.args.e _ 0 c.requires.0 (omega (arith, c.told-s)) c.loop-held.invariant.replaced c.loop-held-test.false
