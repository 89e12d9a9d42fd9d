use Rattle.std.proofs.Common.{◌≡◌, sym, refl, add-one, arith, get_or, ltb, lt-ltb, le-ltb}
use Rattle.model.specs.Tables.{any}
use Rattle.model.proofs.Tests.{any-hit}
use Rattle.mesh.proofs.loads.any_over.Goals as goal

pub loop-load-init : goal.loop-load-init
unfolding any
loop-load-init c = refl

pub returns-then-slots-load : goal.returns-then-slots-load
returns-then-slots-load c =
    sym (any-hit 256 (λ k. ltb c.args.slots (get_or c.args.loads.now k 0)) c.loop-load.load-index (omega arith) (lt-ltb _ _ c.if-slots-load.true))

pub loop-load-preserved : goal.loop-load-preserved
unfolding any
loop-load-preserved c = rw (add-one c.loop-load.load-index, le-ltb _ _ c.if-slots-load.false) c.loop-load.invariant

pub returns : goal.returns
returns c =
    let all : c.loop-load.load-index ≡ 256 = omega arith in
    rw all at (sym c.loop-load.invariant)
