use Rattle.std.proofs.Common.{arith}
use Rattle.calls.proofs.Stores.{puts_then}
use Rattle.replies.proofs.DecimalLength.{twenty}
use Rattle.replies.proofs.PutOn.{says}
use Rattle.sharewords.proofs.say_two.Goals as goal

pub put_decimal-space-requires : goal.put_decimal-space-requires
put_decimal-space-requires c = omega (arith, twenty _ c.ranges.first.fits)

pub put_number-end-requires : goal.put_number-end-requires
put_number-end-requires c = omega (arith, twenty _ c.ranges.first.fits)

pub put-requires : goal.put-requires
put-requires c = omega (arith, twenty _ c.ranges.first.fits)

pub returns : goal.returns
returns c =
    says (puts_then (puts_then c.put_decimal-space.ensures c.put_number-end.ensures.put) c.put.ensures) (omega (arith, twenty _ c.ranges.first.fits))
