use Rattle.std.proofs.Common.{◌≡◌, ◌∙◌, arith}
use Rattle.extras.proofs.Layers.{shares-small, worths-small, share_is, worth_is}
use Rattle.extras.proofs.BestSets.{first-best, next-best}
use Rattle.extras.proofs.search.best_of.Goals as goal

pub loop-mask-init : goal.loop-mask-init
loop-mask-init c = first-best _

pub sum_over-share-requires : goal.sum_over-share-requires
sum_over-share-requires c = shares-small c.args.x c.requires.0

pub sum_over-worth-requires : goal.sum_over-worth-requires
sum_over-worth-requires c = worths-small c.args.x c.requires.0

pub loop-mask-preserved : goal.loop-mask-preserved
loop-mask-preserved c =
    let x = c.args.x in
    let mask = c.loop-mask.mask in
    rw c.better-best.ensures
    (next-best c.loop-mask.invariant (c.sum_over-share.ensures ∙ share_is x mask) (c.sum_over-worth.ensures ∙ worth_is x mask))

pub returns : goal.returns
returns c =
    let all : c.loop-mask.mask ≡ c.args.looked = omega arith in
    rw all at c.loop-mask.invariant
