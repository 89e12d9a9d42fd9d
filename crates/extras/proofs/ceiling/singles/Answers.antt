use Rattle.std.proofs.Common.{ap, sym, ◌∙◌, arith, cond, leb}
use Rattle.extras.proofs.Layers.{count_is, layer-is, place-there, place-small, element-inside}
use Rattle.extras.proofs.Summing.{none-added, one-added, all-added}
use Rattle.extras.proofs.ceiling.singles.Goals as goal

pub loop-i-init : goal.loop-i-init
loop-i-init c = none-added _ _ _

pub offset_bounds-x-i : goal.offset_bounds-x-i
offset_bounds-x-i c = omega (arith, place-small c.args.x c.requires c.loop-i.i c.loop-i-test.true)

pub bounds-x-i : goal.bounds-x-i
bounds-x-i c = place-small c.args.x c.requires c.loop-i.i c.loop-i-test.true

pub offset_bounds-x-i-in-loop-i : goal.offset_bounds-x-i-in-loop-i
offset_bounds-x-i-in-loop-i c = omega (arith, place-small c.args.x c.requires c.loop-i.i c.loop-i-test.true)

pub bounds-x-i-in-loop-i : goal.bounds-x-i-in-loop-i
bounds-x-i-in-loop-i c = place-small c.args.x c.requires c.loop-i.i c.loop-i-test.true

pub overflow_add-worth : goal.overflow_add-worth
overflow_add-worth c =
    let small = place-small c.args.x c.requires c.loop-i.i c.loop-i-test.true in
    let worth = (element-inside c.args.x c.requires c.loop-i.i c.loop-i-test.true).worth_most in
    record { fits = omega (arith, small, worth, c.loop-i.invariant.bound) }

pub loop-i-preserved : goal.loop-i-preserved
loop-i-preserved c =
    let x = c.args.x in
    let i = c.loop-i.i in
    let layer = layer-is x i c.loop-i-test.true in
    let single = c.added-worth.ensures.is ∙ sym (ap (λ e. cond (leb e.share x.slots) e.worth 0) layer) in
    let most = (element-inside x c.requires i c.loop-i-test.true).worth_most in
    one-added c.loop-i.invariant (place-there x c.requires i c.loop-i-test.true) single (omega arith)

pub returns : goal.returns
returns c = all-added c.loop-i.invariant (omega (arith, count_is c.args.x))
