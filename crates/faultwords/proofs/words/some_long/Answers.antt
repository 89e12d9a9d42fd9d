use Rattle.std.proofs.Common.{length, below_more, sym, arith}
use Rattle.std.proofs.lemmas.Bool.{lt-ltb, le-ltb}
use Rattle.model.proofs.Tests.{any-hit, any-of-none}
use Rattle.faultwords.proofs.words.some_long.Goals as goal

pub returns-then-n-gt-LONGEST : goal.returns-then-n-gt-LONGEST
returns-then-n-gt-LONGEST c = sym (any-hit (length c.args.numbers.now) _ c.loop-n.n-index c.loop-n-test.true (lt-ltb _ _ c.if-n-gt-LONGEST.true))

pub loop-n-preserved : goal.loop-n-preserved
loop-n-preserved c = below_more _ _ c.loop-n.invariant (le-ltb _ _ c.if-n-gt-LONGEST.false)

pub returns : goal.returns
returns c = sym (any-of-none (length c.args.numbers.now) _ (λ k h. c.loop-n.invariant k (omega arith)))
