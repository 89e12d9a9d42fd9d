use Rattle.std.proofs.Common.{ap, ◌∙◌, arith}
use mathlib.Core.Bool.{cond}
use lib.Dec.{eqb}
use Rattle.link.proofs.Stays.{lend-current, still-in}
use Rattle.trace.specs.Trace.{call_numbers, traced_lend, lend_line}
use Rattle.trace.proofs.Numbers.{lines-as}
use Rattle.trace.proofs.LinkTold.{current-few, answered-as, count-told, current-told}
use Rattle.trace.proofs.lends.hand_on.Goals as goal

pub put_answer-requires : goal.put_answer-requires
put_answer-requires c =
    record { hand = still-in c.requires.0 c.lend-answer.ensures (lend-current _ _); position = current-few c.requires.0.proper; fits = omega (arith, c.requires.1) }

pub returns : goal.returns
unfolding traced_lend lend_line
returns c =
    let went = c.lend-answer.ensures in
    let o = still-in c.requires.0 went (lend-current _ _) in
    let a = c.spoken-said.ensures in
    let i = c.lent_to.ensures ∙ (λ k. cond (eqb (a k).number 0) (a k).value (count-told o k)) in
    let call = c.call_of.ensures ∙ ap (λ m. call_numbers 4 m 0) c.from.ensures in
    record {
      link_is = went.link_is;
      hand = o;
      lines_are =
          lines-as
          (answered-as _ a call i (current-told o) ∙ (λ k. lend_line c.args.mask (went.link_is k) (went.answer_is k)))
          (omega arith) c.put_answer.ensures;
    }
