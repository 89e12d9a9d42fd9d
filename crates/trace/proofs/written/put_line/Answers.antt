use Rattle.trace.proofs.Numbers.{one_line}
use Rattle.trace.proofs.written.put_line.Goals as goal

pub returns : goal.returns
returns c = one_line _ _ _ _ c.put_numbers-last.ensures
