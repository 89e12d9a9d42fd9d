use Rattle.std.proofs.Common.{arith}
use Rattle.faults.proofs.ToldEach.{none_told, one_told, all_told}
use Rattle.weekwords.proofs.entries.tell_pairs.Goals as goal

pub loop-j-init : goal.loop-j-init
loop-j-init c = none_told _ _ _ _

pub tell_shared-next-requires : goal.tell_shared-next-requires
tell_shared-next-requires c = (omega arith, omega (arith, c.loop-j.invariant.up_to, c.loop-j.invariant.puts.length_stays))

pub loop-j-preserved : goal.loop-j-preserved
loop-j-preserved c = one_told c.loop-j.invariant c.tell_shared-next.ensures.put c.tell_shared-next.ensures.most

pub returns-clause-put : goal.returns-clause-put
returns-clause-put c = all_told c.loop-j.invariant c.args.count (omega arith)

pub returns-clause-most : goal.returns-clause-most
returns-clause-most c = omega (arith, c.loop-j.invariant.up_to)
