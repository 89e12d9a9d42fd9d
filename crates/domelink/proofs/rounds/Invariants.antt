use Rattle.program.specs.State.{Regular}
use Rattle.domelink.proofs.rounds.Given as goal

abbrev pub invariant-loop : goal.invariant-loop
invariant-loop g l = Regular l.state
