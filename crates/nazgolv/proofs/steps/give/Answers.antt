use Rattle.nazgolv.proofs.Stepping.{steps-credit}
use Rattle.nazgolv.proofs.steps.give.Goals as goal

pub returns : goal.returns
returns c = steps-credit c.requires _ _ c.credit-number.ensures c.refused.ensures
