use Rattle.std.proofs.Common.{ap, ◌∙◌, arith}
use Rattle.model.specs.Link as model
use Rattle.link.specs.Steps.{read_in}
use Rattle.link.specs.Reading.{stored_owner}
use Rattle.trace.specs.Trace.{tick_line}
use Rattle.trace.proofs.Numbers.{lines-as}
use Rattle.trace.proofs.LinkTold.{current-few, answered-as, owner-told, count-told, current-told}
use Rattle.trace.proofs.ticks.put_tick.Goals as goal

pub returns : goal.returns
unfolding tick_line
returns c =
    let o = c.requires.0 in
    let m = read_in c.args.plan c.args.s.now in
    let owner = c.byte_at-owner.ensures ∙ owner-told o _ (current-few o.proper) ∙ ap (λ q. stored_owner (model.owner m q)) (current-told o) in
    lines-as
    (answered-as m (c.answer_of.ensures ∙ ap (λ v. record { letter = 84; number = 0; value = v }) owner) c.call_of.ensures (count-told o) (current-told o))
    (omega arith) c.put_answer.ensures
