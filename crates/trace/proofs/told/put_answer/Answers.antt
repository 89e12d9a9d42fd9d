use Rattle.std.proofs.Common.{refl, arith}
use Rattle.trace.specs.Trace.{answered}
use Rattle.trace.proofs.Numbers.{answer_line, lines-as, lines_then}
use Rattle.trace.proofs.told.put_answer.Goals as goal

pub returns : goal.returns
unfolding answered
returns c =
    let three = lines_then (lines_then c.put_numbers-call.ensures c.put_numbers-about.ensures) c.put_about-last.ensures in
    lines-as refl (omega arith) (answer_line _ _ _ _ _ _ _ three)
