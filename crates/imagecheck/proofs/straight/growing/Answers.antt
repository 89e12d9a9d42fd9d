use Rattle.std.proofs.Common.{ap, ◌∙◌, arith, nat_eq}
use Rattle.imagecheck.proofs.StraightRuns.{alike}
use Rattle.imagecheck.proofs.TestLoops.{counting-none, counting_more, counted-all}
use Rattle.imagecheck.proofs.straight.growing.Goals as goal

pub loop-k-init : goal.loop-k-init
loop-k-init c = counting-none

pub loop-k-preserved : goal.loop-k-preserved
loop-k-preserved c =
    let grown = c.grown-n.ensures in
    let same = alike c.args.i c.short.ensures c.short-in-loop-k.ensures c.short-in-loop-k-2.ensures c.requires.flow in
    counting_more c.loop-k.invariant c.loop-k-test.true (grown.0 ∙ same) grown.1

pub returns : goal.returns
returns c = ap (λ n. nat_eq n c.args.count) c.from.ensures ∙ counted-all _ c.loop-k.invariant (omega arith)
