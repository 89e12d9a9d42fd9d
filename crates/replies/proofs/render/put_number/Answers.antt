use Rattle.std.proofs.Common.{arith, length-set}
use Rattle.replies.proofs.DecimalLength.{twenty}
use Rattle.replies.proofs.render.put_number.Goals as goal

pub put_decimal-requires : goal.put_decimal-requires
put_decimal-requires c = simp length-set (omega (arith, twenty c.args.n c.ranges.n.fits))

pub returns-clause-most : goal.returns-clause-most
returns-clause-most c = omega (arith, twenty c.args.n c.ranges.n.fits)
