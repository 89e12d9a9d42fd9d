use Rattle.std.proofs.Common.{ap, ◌∙◌, arith, nat_eq}
use Rattle.model.specs.Tables.{bit}
use Rattle.imagemodel.specs.Image.{owner_in}
use Rattle.imagemodel.specs.Consistent as images
use Rattle.imagecheck.proofs.TestLoops.{counting-none, counting_more, counted-all}
use Rattle.imagecheck.proofs.bookings.known.Goals as goal

pub loop-p-init : goal.loop-p-init
loop-p-init c = counting-none

pub loop-p-preserved : goal.loop-p-preserved
loop-p-preserved c =
    let one = c.is_known-n.ensures in
    counting_more c.loop-p.invariant c.loop-p-test.true (one.0 ∙ ap (λ v. bit (images.known c.args.count (owner_in v))) c.short.ensures) one.1

pub returns : goal.returns
returns c = ap (λ n. nat_eq n c.args.size) c.from.ensures ∙ counted-all _ c.loop-p.invariant (omega arith)
