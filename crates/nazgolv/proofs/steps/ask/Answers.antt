use Rattle.link.proofs.Given.{flow-or-zero-few, request-in}
use Rattle.nazgolv.proofs.Stepping.{steps-request}
use Rattle.nazgolv.proofs.steps.ask.Goals as goal

pub bounds-plan-i : goal.bounds-plan-i
bounds-plan-i c = flow-or-zero-few c.requires.sound.parts.plan _ c.flow_or_zero-i.ensures

pub returns : goal.returns
returns c =
    let flow = rw c.from.ensures at c.flow_or_zero-i.ensures in
    let given = request-in c.requires c.args.word c.split-fields.ensures flow in
    steps-request c.requires c.args.word (c.request-reply.ensures _ _ given) c.number_of_reply.ensures
