use Rattle.link.proofs.Given.{flow-or-zero-few, request-in}
use Rattle.link.proofs.Told.{request-told}
use Rattle.link.proofs.Link.request.Goals as goal

pub bounds-plan-i : goal.bounds-plan-i
bounds-plan-i c = flow-or-zero-few c.args.self.sound.parts.plan _ c.flow_or_zero-i.ensures

pub invariant_of-self : goal.invariant_of-self
invariant_of-self c = record { sound = (c.request-reply.ensures _ _ (request-in c.window-w.ensures _ c.split-fields.ensures c.flow_or_zero-i.ensures)).sound }

pub returns : goal.returns
returns c = rw c.told.ensures (request-told c.args.self.sound _ (c.request-reply.ensures _ _ (request-in c.window-w.ensures _ c.split-fields.ensures c.flow_or_zero-i.ensures)))
