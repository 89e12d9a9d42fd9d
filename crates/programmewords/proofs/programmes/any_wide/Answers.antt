use Rattle.std.proofs.Common.{below_more, sym, arith}
use Rattle.std.proofs.lemmas.Bool.{lt-ltb, le-ltb}
use Rattle.model.proofs.Tests.{any-hit, any-of-none}
use Rattle.programmewords.proofs.programmes.any_wide.Goals as goal

pub returns-then-numbers-i-gt-WIDEST : goal.returns-then-numbers-i-gt-WIDEST
returns-then-numbers-i-gt-WIDEST c = sym (any-hit c.args.count _ c.loop-i.i c.loop-i-test.true (lt-ltb _ _ c.if-numbers-i-gt-WIDEST.true))

pub loop-i-preserved : goal.loop-i-preserved
loop-i-preserved c = below_more _ _ c.loop-i.invariant (le-ltb _ _ c.if-numbers-i-gt-WIDEST.false)

pub returns : goal.returns
returns c = sym (any-of-none c.args.count _ (λ k h. c.loop-i.invariant k (omega arith)))
