use Rattle.std.proofs.Common.{◌∙◌, arith}
use Rattle.link.proofs.Stays.{reset-current, still-in}
use Rattle.trace.specs.Trace.{reset_lines, traced_reset}
use Rattle.trace.proofs.Numbers.{lines-as, lines_then}
use Rattle.trace.proofs.LinkTold.{current-few, answered-as, count-told, current-told, reset-alone, reset-all}
use Rattle.trace.proofs.resets.reset_step.Goals as goal

pub put_answer-next-requires : goal.put_answer-next-requires
put_answer-next-requires c =
    record { hand = still-in c.requires.0 c.reset-answer.ensures (reset-current _); position = current-few c.requires.0.proper; fits = omega (arith, c.requires.1) }

pub returns-then-said-ne0 : goal.returns-then-said-ne0
unfolding traced_reset
returns-then-said-ne0 c =
    let went = c.reset-answer.ensures in
    let o = still-in c.requires.0 went (reset-current _) in
    record {
      link_is = went.link_is;
      hand = o;
      lines_are =
          lines-as
          (answered-as _ c.spoken-said.ensures c.call_of.ensures (count-told o) (current-told o)
          ∙ reset-alone _ _ c.spoken-said.ensures c.if-said-ne0.true
          ∙ (λ k. reset_lines (went.link_is k) (went.answer_is k)))
          (omega arith) c.put_answer-next.ensures;
    }

pub put_flows-requires : goal.put_flows-requires
put_flows-requires c =
    let s = c.put_answer-next.ensures in
    (still-in c.requires.0 c.reset-answer.ensures (reset-current _), omega (arith, s.short, s.put.length_stays, c.requires.1))

pub returns : goal.returns
unfolding traced_reset
returns c =
    let went = c.reset-answer.ensures in
    let o = still-in c.requires.0 went (reset-current _) in
    record {
      link_is = went.link_is;
      hand = o;
      lines_are =
          lines-as
          (reset-all _ _ c.spoken-said.ensures c.if-said-ne0.false (count-told o) ∙ (λ k. reset_lines (went.link_is k) (went.answer_is k)))
          (omega arith)
          (lines_then {m = 384}
          (lines-as (answered-as _ c.spoken-said.ensures c.call_of.ensures (count-told o) (current-told o)) (omega arith) c.put_answer-next.ensures)
          c.put_flows.ensures);
    }
