use Rattle.std.proofs.Common.{arith}
use Rattle.trace.proofs.Numbers.{lines-as}
use Rattle.trace.proofs.LinkTold.{flow-line-told}
use Rattle.trace.proofs.told.put_flow.Goals as goal

pub returns : goal.returns
returns c = λ plan o. lines-as (flow-line-told o c.args.i c.requires.1 c.flow_at-f.ensures.is (c.last_held.ensures plan o)) (omega arith) c.put_line.ensures
