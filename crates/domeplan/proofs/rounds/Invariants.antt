use Rattle.questions.specs.Promises.{Regular}
use Rattle.domeplan.proofs.rounds.Given as goal

abbrev pub invariant-rounds : goal.invariant-rounds
invariant-rounds g l = Regular l.now
