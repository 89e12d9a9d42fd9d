use Rattle.std.proofs.Common.{arith}
use Rattle.std.proofs.lemmas.Bool.Decides.{nat_tests}
use Rattle.extras.specs.Extras.{outside}
use Rattle.extras.proofs.Layers.{count_is}
use Rattle.extras.proofs.ranges.outside.Goals as goal
use Rattle.extras.proofs.ranges.outside.Goals.{then-x-eq0-via-then-x-eq0, then-x-eq0-via-else-x-eq0+then-x-gt-MOST}

pub returns-then-x-eq0 : goal.returns-then-x-eq0
unfolding outside
returns-then-x-eq0 c =
    rw (count_is c.args.x)
    (elim c.then-x-eq0.branch [
      | then-x-eq0-via-then-x-eq0 w ↦ grind (arith, nat_tests)
      | then-x-eq0-via-else-x-eq0+then-x-gt-MOST w ↦ grind (arith, nat_tests)
    ])

pub returns-then-x-gt-MOST_SLOTS : goal.returns-then-x-gt-MOST_SLOTS
unfolding outside
returns-then-x-gt-MOST_SLOTS c = rw (count_is c.args.x) (grind (arith, nat_tests))

pub returns-else-x-gt-MOST_SLOTS : goal.returns-else-x-gt-MOST_SLOTS
unfolding outside
returns-else-x-gt-MOST_SLOTS c = rw (count_is c.args.x) (grind (arith, nat_tests))
