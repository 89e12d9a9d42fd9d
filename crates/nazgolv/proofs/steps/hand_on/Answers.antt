use Rattle.nazgolv.proofs.Stepping.{steps-lend}
use Rattle.nazgolv.proofs.steps.hand_on.Goals as goal

pub returns : goal.returns
returns c = steps-lend c.requires _ c.lend-answer.ensures c.number_of.ensures
