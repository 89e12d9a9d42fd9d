use Rattle.link.proofs.StateTicks.{went-stays, went-leaves}
use Rattle.link.proofs.tick.tick.Goals as goal
use Rattle.link.proofs.tick.tick.Goals.{then-on-w, else-on-w}

pub returns-clause-is : goal.returns-clause-is
returns-clause-is c =
    elim c.if-on-w.branch [
      | then-on-w leaves ↦ rw leaves.s-is (went-leaves c.requires c.ticked-on.ensures.is leaves.if-on-w.true leaves.leave.ensures).0
      | else-on-w stays ↦ rw stays.s-is (went-stays c.requires c.ticked-on.ensures.is stays.if-on-w.false).0
    ]

pub returns-clause-there : goal.returns-clause-there
returns-clause-there c =
    elim c.if-on-w.branch [
      | then-on-w leaves ↦ rw leaves.s-is (went-leaves c.requires c.ticked-on.ensures.is leaves.if-on-w.true leaves.leave.ensures).1
      | else-on-w stays ↦ rw stays.s-is (went-stays c.requires c.ticked-on.ensures.is stays.if-on-w.false).1
    ]
