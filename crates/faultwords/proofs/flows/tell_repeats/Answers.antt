use Rattle.std.proofs.Common.{arith}
use Rattle.faults.proofs.ToldEach.{none_told, one_told, all_told}
use Rattle.faultwords.proofs.flows.tell_repeats.Goals as goal

pub loop-j-init : goal.loop-j-init
loop-j-init c = none_told _ _ _ _

pub tell_alike-next-requires : goal.tell_alike-next-requires
tell_alike-next-requires c =
    let s = c.loop-j.invariant in
    (omega (arith, c.requires.0.asked), omega (arith, s.up_to, s.puts.length_stays, c.requires.0.few))

pub loop-j-preserved : goal.loop-j-preserved
loop-j-preserved c = one_told c.loop-j.invariant c.tell_alike-next.ensures.put c.tell_alike-next.ensures.most

pub returns-clause-put : goal.returns-clause-put
returns-clause-put c = all_told c.loop-j.invariant c.args.flows (omega arith)

pub returns-clause-most : goal.returns-clause-most
returns-clause-most c = omega (arith, c.loop-j.invariant.up_to, c.requires.0.few)
