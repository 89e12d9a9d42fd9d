use Rattle.showinput.specs.Promises.{Regular}
use Rattle.domeshow.proofs.rounds.Given as goal

abbrev pub invariant-loop : goal.invariant-loop
invariant-loop g l = Regular l.state
