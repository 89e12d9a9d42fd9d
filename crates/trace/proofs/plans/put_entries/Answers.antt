use Rattle.std.proofs.Common.{◌<◌, sym, ap, ◌∙◌, arith}
use Rattle.std.proofs.lemmas.List.{get_or-take, length-take-le}
use Rattle.plan.specs.Reading.{entry_for, no_entry}
use Rattle.trace.proofs.LinkTold.{plan-entry, count_most}
use Rattle.trace.specs.Trace.{entry_line, entry_lines}
use Rattle.trace.proofs.Numbers.{no_lines, line-more, all_lines, lines-as}
use Rattle.trace.proofs.plans.put_entries.Goals as goal

pub loop-e-init : goal.loop-e-init
loop-e-init c = no_lines

pub loop-e-preserved : goal.loop-e-preserved
loop-e-preserved c =
    let few = count_most c.args.plan c.requires.0 in
    let h : c.loop-e.e-index < c.args.plan.count = omega (arith, c.loop-e-test.true, length-take-le c.args.plan.count c.args.plan.entries (omega (arith, few))) in
    let e = ap entry_for (get_or-take c.args.plan.count c.args.plan.entries c.loop-e.e-index no_entry h) ∙ sym (plan-entry c.args.plan _ h) in
    line-more c.loop-e.invariant h (lines-as (ap entry_line e) (omega arith) c.put_entry-next.ensures)

pub returns : goal.returns
unfolding entry_lines
returns c =
    let few = count_most c.args.plan c.requires.0 in
    all_lines c.loop-e.invariant (omega (arith, c.loop-e-test.false, length-take-le c.args.plan.count c.args.plan.entries (omega (arith, few)))) few
