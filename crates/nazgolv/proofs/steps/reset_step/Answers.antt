use Rattle.nazgolv.proofs.Stepping.{steps-reset}
use Rattle.nazgolv.proofs.steps.reset_step.Goals as goal

pub returns : goal.returns
returns c = steps-reset c.requires c.reset-answer.ensures c.number_of.ensures
