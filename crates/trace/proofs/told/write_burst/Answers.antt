use Rattle.std.proofs.Common.{arith}
use Rattle.trace.proofs.Numbers.{lines-as}
use Rattle.trace.proofs.LinkTold.{current-few, answered-as, count-told, current-told}
use Rattle.trace.proofs.told.write_burst.Goals as goal

pub put_answer-requires : goal.put_answer-requires
put_answer-requires c = record { hand = c.requires.0; position = current-few c.requires.0.proper; fits = c.requires.1 }

pub returns : goal.returns
returns c =
    let o = c.requires.0 in
    lines-as (answered-as _ c.answer_of.ensures c.call_of.ensures (count-told o) (current-told o)) (omega arith) c.put_answer.ensures
