use Rattle.std.proofs.Common.{arith}
use Rattle.faults.proofs.ToldEach.{none_told, one_told, all_told}
use Rattle.faultwords.proofs.flows.tell_entries.Goals as goal

pub loop-i-init : goal.loop-i-init
loop-i-init c = none_told _ _ _ _

pub tell_entry-next-requires : goal.tell_entry-next-requires
tell_entry-next-requires c =
    let s = c.loop-i.invariant in
    (omega (arith, c.requires.0.asked), omega (arith, s.up_to, s.puts.length_stays, c.requires.0.few))

pub loop-i-preserved : goal.loop-i-preserved
loop-i-preserved c = one_told c.loop-i.invariant c.tell_entry-next.ensures.put c.tell_entry-next.ensures.most

pub returns-clause-put : goal.returns-clause-put
returns-clause-put c = all_told c.loop-i.invariant c.args.flows (omega arith)

pub returns-clause-most : goal.returns-clause-most
returns-clause-most c = omega (arith, c.loop-i.invariant.up_to, c.requires.0.few)
