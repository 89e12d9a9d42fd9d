use Rattle.std.proofs.Common.{arith}
use Rattle.linetable.proofs.Texts.{one-digit, two_digits, three-digits}
use Rattle.linetable.proofs.number_line.Goals as goal

pub returns-then-n-lt10 : goal.returns-then-n-lt10
returns-then-n-lt10 c = one-digit _ _ c.pack-chunk.result c.if-n-lt10.true c.pack-chunk.ensures

pub returns-then-n-lt100 : goal.returns-then-n-lt100
returns-then-n-lt100 c = two_digits _ _ c.pack.result c.pack-then-n-lt100.result c.if-n-lt10.false c.if-n-lt100.true c.pack.ensures c.pack-then-n-lt100.ensures

pub returns : goal.returns
returns c = three-digits _ _ c.pack-2.result c.pack-3.result c.if-n-lt100.false (omega arith) c.pack-2.ensures c.pack-3.ensures
