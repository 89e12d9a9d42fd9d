use Rattle.std.proofs.Common.{refl, arith}
use Rattle.tables.proofs.CarriedRows.{carrying-none, carrying-more, carrying-done}
use Rattle.tables.proofs.Shifting.{filled}
use Rattle.tables.proofs.holdings.carry.Goals as goal

pub loop-i-init : goal.loop-i-init
loop-i-init c = carrying-none

pub loop-i-preserved : goal.loop-i-preserved
loop-i-preserved c =
    let put = filled _ _ c.loop-i.s _ _ (omega arith) (omega arith) (c.fill.ensures.after (λ y e. e)) in
    carrying-more c.loop-i.invariant c.loop-i-test.true c.requires.3 c.requires.1 refl put

pub returns : goal.returns
returns c = carrying-done c.loop-i.invariant c.loop-i-test.false
