use Rattle.std.proofs.Common.{length, refl, sym, ap, ◌∙◌, arith}
use Rattle.calls.proofs.Stores.{puts_none, puts-same}
use Rattle.faults.proofs.ToldEach.{puts-from, none-searched, one-searched, first_found, none_found}
use Rattle.weekwords.proofs.entries.tell_shared.Goals as goal

pub loop-i-init : goal.loop-i-init
loop-i-init c = record { searched = none-searched _ _; same = refl }

pub tell_if-requires : goal.tell_if-requires
tell_if-requires c = omega (arith, ap length c.loop-i.invariant.same)

pub returns-then-share_minute-clause-put : goal.returns-then-share_minute-clause-put
returns-then-share_minute-clause-put c =
    let found = first_found c.loop-i.invariant.searched 29 c.loop-i-test.true (sym c.share_minute.ensures ∙ c.if-share_minute.true) in
    puts-from c.loop-i.invariant.same (puts-same found c.tell_if.ensures.put)

pub loop-i-preserved : goal.loop-i-preserved
loop-i-preserved c = record {
  searched = one-searched c.loop-i.invariant.searched c.loop-i-test.true (sym c.share_minute.ensures ∙ c.if-share_minute.false);
  same = c.loop-i.invariant.same;
}

pub returns-clause-put : goal.returns-clause-put
returns-clause-put c = puts-from c.loop-i.invariant.same (puts-same (none_found c.loop-i.invariant.searched 29 c.loop-i-test.false) (puts_none _ _))
