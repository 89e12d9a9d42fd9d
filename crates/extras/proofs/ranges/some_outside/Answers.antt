use Rattle.std.proofs.Common.{◌≡◌, ap, sym, ◌∙◌, refl, not, add-one, arith}
use Rattle.model.specs.Tables.{any}
use Rattle.model.proofs.Tests.{any-hit}
use Rattle.extras.specs.Extras.{layer_inside, layer}
use Rattle.extras.specs.Reading.{extras_for}
use Rattle.extras.proofs.Layers.{layer-is}
use Rattle.extras.proofs.ranges.some_outside.Goals as goal

pub loop-i-init : goal.loop-i-init
unfolding any
loop-i-init c = refl

pub returns-then-not-layer_inside : goal.returns-then-not-layer_inside
returns-then-not-layer_inside c =
    let x = c.args.x in
    let i = c.loop-i.i in
    let kept = ap layer_inside (layer-is x i c.loop-i-test.true) ∙ sym c.layer_inside.ensures ∙ c.if-not-layer_inside.true in
    sym (any-hit x.count (λ i. not (layer_inside (layer (extras_for x) i))) i c.loop-i-test.true (ap not kept))

pub loop-i-preserved : goal.loop-i-preserved
unfolding any
loop-i-preserved c =
    let kept = ap layer_inside (layer-is c.args.x c.loop-i.i c.loop-i-test.true) ∙ sym c.layer_inside.ensures ∙ c.if-not-layer_inside.false in
    rw (add-one c.loop-i.i, kept) c.loop-i.invariant

pub returns : goal.returns
returns c =
    let all : c.loop-i.i ≡ c.args.x.count = omega arith in
    rw all at (sym c.loop-i.invariant)
