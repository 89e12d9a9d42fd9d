use Rattle.std.proofs.Common.{arith}
use Rattle.link.proofs.Given.{flow-or-zero-few, request-in}
use Rattle.burst.proofs.reply_to.Goals as goal

pub offset_bounds-plan-i : goal.offset_bounds-plan-i
offset_bounds-plan-i c = omega (arith, flow-or-zero-few c.requires.sound.parts.plan _ c.flow_or_zero-i.ensures)

pub bounds-plan-i : goal.bounds-plan-i
bounds-plan-i c = flow-or-zero-few c.requires.sound.parts.plan _ c.flow_or_zero-i.ensures

pub request-requires : goal.request-requires
request-requires c = record { plan = _; word = _; given = request-in c.requires _ c.split-fields.ensures c.flow_or_zero-i.ensures }

pub returns : goal.returns
returns c = c.request.ensures _ _ (request-in c.requires _ c.split-fields.ensures c.flow_or_zero-i.ensures)
