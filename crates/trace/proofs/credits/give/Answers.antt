use Rattle.std.proofs.Common.{refl, sym, ◌∙◌, arith}
use Rattle.link.specs.Reading.{link_of}
use Rattle.link.proofs.Readings.{size_most}
use Rattle.link.proofs.Stays.{credit-current, still-in}
use Rattle.trace.specs.Trace.{credit_line, traced_credit}
use Rattle.trace.proofs.Numbers.{lines-as}
use Rattle.trace.proofs.LinkTold.{current-few, answered-as, current-told, dated-below, refused-line, accepted-line}
use Rattle.trace.proofs.credits.give.Goals as goal

pub put_answer-requires : goal.put_answer-requires
put_answer-requires c =
    record { hand = still-in c.requires.0 c.credit-number.ensures (credit-current _ _ _); position = current-few c.requires.0.proper; fits = omega (arith, c.requires.1) }

pub returns-then-number-ne0 : goal.returns-then-number-ne0
unfolding traced_credit credit_line
returns-then-number-ne0 c =
    let went = c.credit-number.ensures in
    let o = still-in c.requires.0 went (credit-current _ _ _) in
    let said = c.answer_of.ensures ∙ (λ k. record { letter = 82; number = c.from.ensures k; value = 0 }) in
    record {
      link_is = went.link_is;
      hand = o;
      lines_are =
          lines-as
          (answered-as _ said c.call_of-call.ensures refl (current-told o)
          ∙ refused-line c.args.flow c.args.position _ _ c.if-number-ne0.true
          ∙ (λ j. credit_line c.args.flow c.args.position (went.link_is j) (went.answer_is j)))
          (omega arith) c.put_answer.ensures;
    }

pub put_answer-requires-2 : goal.put_answer-requires-2
unfolding link_of
put_answer-requires-2 c =
    let below = dated-below _ _ _ (sym c.credit-number.ensures.answer_is ∙ c.if-number-ne0.false) in
    record {
      hand = still-in c.requires.0 c.credit-number.ensures (credit-current _ _ _);
      position = omega (arith, below, size_most _ c.requires.0.sound.parts);
      fits = omega (arith, c.requires.1);
    }

pub returns : goal.returns
unfolding traced_credit credit_line
returns c =
    let went = c.credit-number.ensures in
    record {
      link_is = went.link_is;
      hand = still-in c.requires.0 went (credit-current _ _ _);
      lines_are =
          lines-as
          (answered-as _ c.answer_of-2.ensures c.call_of-call.ensures refl refl
          ∙ accepted-line c.args.flow c.args.position _ _ c.if-number-ne0.false
          ∙ (λ j. credit_line c.args.flow c.args.position (went.link_is j) (went.answer_is j)))
          (omega arith) c.put_answer-2.ensures;
    }
