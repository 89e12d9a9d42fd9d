use Rattle.std.proofs.Common.{length, sym, ◌∙◌, below_more, arith}
use Rattle.model.proofs.Tests.{any-hit, any-of-none}
use Rattle.week.proofs.Refusals.{shared-is}
use Rattle.week.proofs.shared.any_shared.Goals as goal

pub returns-then-shared_below : goal.returns-then-shared_below
returns-then-shared_below c =
    sym (shared-is c.args.entries.now ∙ any-hit (length c.args.entries.now) _ c.loop-i.i c.loop-i-test.true (sym c.shared_below.ensures ∙ c.if-shared_below.true))

pub loop-i-preserved : goal.loop-i-preserved
loop-i-preserved c = below_more _ _ c.loop-i.invariant (sym c.shared_below.ensures ∙ c.if-shared_below.false)

pub returns : goal.returns
returns c = sym (shared-is c.args.entries.now ∙ any-of-none (length c.args.entries.now) _ (λ k h. c.loop-i.invariant k (omega arith)))
