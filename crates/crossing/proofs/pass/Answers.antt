use Rattle.crossing.proofs.OneTile.{asked-in-step, refused-one, granted-one, credited-in-step}
use Rattle.crossing.proofs.pass.Goals as goal

pub returns-then-reply-ne0 : goal.returns-then-reply-ne0
returns-then-reply-ne0 c =
    let o = c.requires.0 in
    let went = c.ask-reply.ensures in
    record { is = λ p r. refused-one o _ _ went r c.if-reply-ne0.true; there = asked-in-step o c.args.i c.args.j went }

pub returns : goal.returns
returns c =
    let o = c.requires.0 in
    let went = c.ask-reply.ensures in
    record {
      is = λ p r. granted-one o _ _ went r c.credit.ensures c.saturating_sub.ensures c.if-reply-ne0.false;
      there = credited-in-step o c.args.i c.args.j went _ c.credit.ensures;
    }
