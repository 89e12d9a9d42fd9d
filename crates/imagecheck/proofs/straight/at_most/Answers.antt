use Rattle.std.proofs.Common.{ap, ◌∙◌, arith, nat_le, nat_eq}
use Rattle.imagecheck.proofs.TestLoops.{counting-none, counting_test, counted-all}
use Rattle.imagecheck.proofs.straight.at_most.Goals as goal

pub loop-p-init : goal.loop-p-init
loop-p-init c = counting-none

pub loop-p-preserved : goal.loop-p-preserved
loop-p-preserved c =
    counting_test _ c.loop-p.invariant c.loop-p-test.true c.from-n.ensures (ap (λ v. nat_le v c.args.most) c.short.ensures)

pub returns : goal.returns
returns c = ap (λ n. nat_eq n c.args.count) c.from.ensures ∙ counted-all _ c.loop-p.invariant (omega arith)
