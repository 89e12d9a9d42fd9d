use Rattle.std.proofs.Common.{arith}
use Rattle.crossing.proofs.Asked.{flow-few, asked_in}
use Rattle.crossing.proofs.ask.Goals as goal

pub flow_at-flow-requires : goal.flow_at-flow-requires
flow_at-flow-requires c = flow-few c.requires.0 c.requires.1

pub offset_bounds-plan-j : goal.offset_bounds-plan-j
offset_bounds-plan-j c = omega (arith, flow-few c.requires.0 c.requires.1)

pub bounds-plan-j : goal.bounds-plan-j
bounds-plan-j c = flow-few c.requires.0 c.requires.1

pub overflow_cast-fields : goal.overflow_cast-fields
overflow_cast-fields c = omega (arith, flow-few c.requires.0 c.requires.1)

pub request-requires : goal.request-requires
request-requires c = record { plan = _; word = _; given = asked_in c.requires.0 c.requires.1 c.flow_at-flow.ensures.is }

pub returns : goal.returns
returns c = c.request.ensures _ _ (asked_in c.requires.0 c.requires.1 c.flow_at-flow.ensures.is)
