use Rattle.std.proofs.Common.{ap, ◌∙◌, arith}
use mathlib.Core.Bool.{cond}
use lib.Dec.{eqb}
use lib.ListN.{get_or}
use Rattle.trace.specs.Trace.{ask_line}
use Rattle.trace.proofs.Numbers.{lines-as}
use Rattle.trace.proofs.LinkTold.{answered-as, current-told}
use Rattle.trace.proofs.asks.put_ask.Goals as goal

pub returns : goal.returns
unfolding ask_line
returns c =
    let said = c.answer_of-said.ensures ∙ (λ k. record { letter = c.args.asked.letter; number = c.from.ensures k; value = c.from-2.ensures k }) in
    let word = c.word_of-call.ensures in
    let place = c.place_of-position.ensures.is ∙ ap (λ q. cond (eqb c.args.asked.reply.number 0) c.args.asked.reply.position q) (current-told c.requires.0) in
    lines-as (answered-as _ said word (ap (λ xs. get_or xs 1 0) word) place) (omega arith) c.put_answer.ensures
