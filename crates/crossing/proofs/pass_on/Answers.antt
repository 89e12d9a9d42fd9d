use Rattle.std.proofs.Common.{List, ℕ, ◌≡◌, ◌-◌, get_or, refl, ap, arith}
use Rattle.crossings.specs.Crossing as reference
use Rattle.crossing.proofs.Tiles.{going-first, going_done, tile-granted, tile-refused, none_left}
use Rattle.crossing.proofs.pass_on.Goals as goal

pub loop-init : goal.loop-init
loop-init c =
    let a = c.args in
    let all : get_or a.waiting.now a.i 0 - 0 ≡ get_or a.waiting.now a.i 0 = omega arith in
    rw all (going-first c.requires.0 (λ p r. ap (λ (ks : List ℕ). reference.pass_on (get_or ks a.i 0) a.i a.j p) r.waiting_is))

pub loop-preserved : goal.loop-preserved
loop-preserved c =
    tile-granted _ _ (omega (arith, c.loop-test.true)) c.loop.invariant c.pass.ensures.there c.pass.ensures.is c.if-not-pass.false

pub returns-after-loop-clause-is : goal.returns-after-loop-clause-is
returns-after-loop-clause-is c = going_done c.loop.invariant (none_left _ _ _ (omega (arith, c.loop-test.false)))

-- one is refused: the others wait on
pub returns-then-not-pass-clause-is : goal.returns-then-not-pass-clause-is
returns-then-not-pass-clause-is c =
    let left = get_or c.args.waiting.now c.args.i 0 - c.loop.counter in
    going_done (tile-refused left (left - 1) (omega (arith, c.loop-test.true)) c.loop.invariant c.pass.ensures.there c.pass.ensures.is c.if-not-pass.true) (none_left _ _ _ refl)
