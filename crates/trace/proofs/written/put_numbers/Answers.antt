use Rattle.std.proofs.Common.{arith}
use Rattle.trace.proofs.Numbers.{no-numbers, one_number, all-numbers}
use Rattle.trace.proofs.written.put_numbers.Goals as goal

pub loop-number-init : goal.loop-number-init
loop-number-init c = no-numbers _ _ _

pub put_number-next-requires : goal.put_number-next-requires
put_number-next-requires c = let s = c.loop-number.invariant in omega (arith, s.short, s.puts.length_stays)

pub loop-number-preserved : goal.loop-number-preserved
loop-number-preserved c = one_number c.loop-number.invariant (omega arith) c.put_number-next.ensures.put c.put_number-next.ensures.most

pub returns : goal.returns
returns c = all-numbers c.loop-number.invariant (omega arith)
