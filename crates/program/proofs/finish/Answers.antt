use Rattle.std.proofs.Common.{refl}
use Rattle.program.proofs.Ends.{finished-by, finished-silent}
use Rattle.program.proofs.finish.Goals as goal

pub returns-in-Reading : goal.returns-in-Reading
returns-in-Reading c = let w = c.write_plan.ensures in rw c.in-Reading.is (finished-by refl (w.out, (w.next, w.most)))

pub returns-in-Ended : goal.returns-in-Ended
returns-in-Ended c = rw c.in-Ended.is (finished-silent refl _)
