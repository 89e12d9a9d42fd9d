use Rattle.trace.proofs.LinkTold.{part-told}
use Rattle.trace.proofs.told.part_of.Goals as goal

pub returns : goal.returns
returns c = λ plan o.
    part-told o c.args.i c.args.p c.requires.1 c.requires.2 c.flow_at-f.ensures.is c.byte_at.ensures c.byte_at-2.ensures (c.last_held.ensures plan o)
