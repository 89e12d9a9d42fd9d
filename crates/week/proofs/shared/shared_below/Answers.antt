use Rattle.std.proofs.Common.{◌<◌, sym, ap, ◌∙◌, below_more, length-take, arith}
use Rattle.model.proofs.Tests.{any-hit, any-of-none}
use Rattle.week.specs.Week.{share_minute}
use Rattle.week.specs.Reading.{stored}
use Rattle.week.proofs.Refusals.{stored-before}
use Rattle.week.proofs.shared.shared_below.Goals as goal

pub returns-then-share_minute : goal.returns-then-share_minute
returns-then-share_minute c =
    let all = c.args.entries.now in
    let i = c.args.i in
    let before : c.loop-lower.lower-index < i = omega (arith, length-take i all) in
    let same = ap (λ e. share_minute e (stored all i)) (stored-before all i c.loop-lower.lower-index before) in
    sym (any-hit i _ c.loop-lower.lower-index before (sym same ∙ sym c.share_minute.ensures ∙ c.if-share_minute.true))

pub loop-lower-preserved : goal.loop-lower-preserved
loop-lower-preserved c =
    let all = c.args.entries.now in
    let i = c.args.i in
    let before : c.loop-lower.lower-index < i = omega (arith, length-take i all) in
    let same = ap (λ e. share_minute e (stored all i)) (stored-before all i c.loop-lower.lower-index before) in
    below_more _ _ c.loop-lower.invariant (sym same ∙ sym c.share_minute.ensures ∙ c.if-share_minute.false)

pub returns : goal.returns
returns c = sym (any-of-none c.args.i _ (λ k h. c.loop-lower.invariant k (omega (arith, length-take c.args.i c.args.entries.now))))
