use Rattle.std.proofs.Common.{◌%◌, ◌∙◌, arith}
use lib.Dec.{eqb}
use Rattle.model.specs.Tick.{next_position}
use Rattle.link.specs.Steps.{read_in}
use Rattle.trace.specs.Trace.{tick_lines, traced_tick}
use Rattle.trace.proofs.Numbers.{lines-as, lines_then}
use Rattle.trace.proofs.LinkTold.{no_change, change, tick-alone, tick-changed, count-told}
use Rattle.trace.proofs.ticks.tick_step.Goals as goal

pub returns-then-ahead-w : goal.returns-then-ahead-w
unfolding traced_tick
returns-then-ahead-w c =
    let went = c.tick-on.ensures.is in
    let m = read_in c.args.plan c.args.s.now in
    let still = no_change c.requires.0 c.ticked-ahead.ensures.is c.if-ahead-w.true in
    record {
      link_is = went.link_is;
      hand = c.tick-on.ensures.there;
      lines_are = lines-as (tick-alone _ still ∙ (λ j. tick_lines (went.link_is j) (eqb (next_position m % m.plan.slots) 0))) (omega arith) c.put_tick.ensures;
    }

pub returns : goal.returns
unfolding traced_tick
returns c =
    let went = c.tick-on.ensures.is in
    let m = read_in c.args.plan c.args.s.now in
    let changed = change c.requires.0 c.ticked-ahead.ensures.is c.if-ahead-w.false in
    record {
      link_is = went.link_is;
      hand = c.tick-on.ensures.there;
      lines_are =
          lines-as (tick-changed _ changed (count-told c.tick-on.ensures.there) ∙ (λ j. tick_lines (went.link_is j) (eqb (next_position m % m.plan.slots) 0))) (omega arith)
          (lines_then c.put_tick-next.ensures c.put_flows.ensures);
    }
