use Rattle.std.proofs.Common.{arith}
use Rattle.link.proofs.FlowBytes.{flow-read}
use Rattle.link.proofs.flows.flow_at.Goals as goal

pub returns-clause-is : goal.returns-clause-is
returns-clause-is c =
    flow-read c.args.s.now c.args.i _ c.from.ensures c.from-2.ensures (omega (arith, c.from-3.ensures, c.from_le_bytes.ensures))
