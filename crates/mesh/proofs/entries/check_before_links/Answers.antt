use Rattle.std.proofs.Common.{arith}
use Rattle.std.proofs.lemmas.Bool.Decides.{nat_tests}
use Rattle.model.specs.Refusals.{first_of}
use Rattle.mesh.proofs.Tests.{tests-are}
use Rattle.mesh.proofs.entries.check_before_links.Goals as goal

pub returns-then-count-gt-MOST_STREAMS : goal.returns-then-count-gt-MOST_STREAMS
unfolding first_of
returns-then-count-gt-MOST_STREAMS c = rw (tests-are c.args.numbers.now c.args.slots) (grind (arith, nat_tests))

pub returns-then-not-contains : goal.returns-then-not-contains
unfolding first_of
returns-then-not-contains c = rw (tests-are c.args.numbers.now c.args.slots) (grind (arith, nat_tests))

pub returns-then-streams_out_of_range : goal.returns-then-streams_out_of_range
unfolding first_of
returns-then-streams_out_of_range c = rw (tests-are c.args.numbers.now c.args.slots) (grind (arith, nat_tests))

pub returns : goal.returns
unfolding first_of
returns c = rw (tests-are c.args.numbers.now c.args.slots) (grind (arith, nat_tests))
