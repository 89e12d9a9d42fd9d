use Rattle.std.proofs.Common.{◌<◌, ◌∙◌, ap, arith, get_or-take, cond}
use Rattle.model.specs.Calls.{in_mask}
use Rattle.extras.proofs.Summing.{none-added, one-added, all-added}
use Rattle.extras.proofs.sets.sum_over.Goals as goal

pub loop-i-init : goal.loop-i-init
loop-i-init c = none-added _ _ _

pub overflow_add-sum : goal.overflow_add-sum
overflow_add-sum c =
    let there : c.loop-i.i < c.args.count = omega arith in
    record { fits = omega (arith, get_or-take c.args.count c.args.amounts.now c.loop-i.i 0 there, c.requires.small c.loop-i.i there) }

pub loop-i-preserved : goal.loop-i-preserved
loop-i-preserved c =
    let there : c.loop-i.i < c.args.count = omega arith in
    let same = get_or-take c.args.count c.args.amounts.now c.loop-i.i 0 there in
    let added = c.added-sum.ensures.is ∙ ap (λ a. cond (in_mask c.args.mask c.loop-i.i) a 0) same in
    one-added c.loop-i.invariant there added (omega (arith, c.requires.small c.loop-i.i there))

pub returns : goal.returns
returns c = all-added c.loop-i.invariant (omega arith)
