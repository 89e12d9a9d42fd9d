use Rattle.std.proofs.Common.{length, refl, sym, ap, ◌∙◌, arith}
use Rattle.calls.proofs.Stores.{puts_none, puts-same}
use Rattle.faults.proofs.ToldEach.{puts-from, none-searched, one-searched, first_found, none_found}
use Rattle.faultwords.proofs.AskedFlows.{pair_is}
use Rattle.faultwords.proofs.flows.tell_alike.Goals as goal

pub loop-i-init : goal.loop-i-init
loop-i-init c = record { searched = none-searched _ _; same = refl }

pub tell_if-requires : goal.tell_if-requires
tell_if-requires c = omega (arith, ap length c.loop-i.invariant.same)

pub returns-then-same_pair-clause-put : goal.returns-then-same_pair-clause-put
returns-then-same_pair-clause-put c =
    let same = pair_is c.args.numbers.now c.loop-i.i c.args.j (omega arith) (omega arith) in
    let found = first_found c.loop-i.invariant.searched 5 c.loop-i-test.true (sym same ∙ sym c.same_pair.ensures ∙ c.if-same_pair.true) in
    puts-from c.loop-i.invariant.same (puts-same found c.tell_if.ensures.put)

pub loop-i-preserved : goal.loop-i-preserved
loop-i-preserved c =
    let same = pair_is c.args.numbers.now c.loop-i.i c.args.j (omega arith) (omega arith) in
    record {
      searched = one-searched c.loop-i.invariant.searched c.loop-i-test.true (sym same ∙ sym c.same_pair.ensures ∙ c.if-same_pair.false);
      same = c.loop-i.invariant.same;
    }

pub returns-clause-put : goal.returns-clause-put
returns-clause-put c = puts-from c.loop-i.invariant.same (puts-same (none_found c.loop-i.invariant.searched 5 c.loop-i-test.false) (puts_none _ _))
