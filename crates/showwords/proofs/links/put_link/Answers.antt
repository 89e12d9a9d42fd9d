use Rattle.std.proofs.Common.{◌∙◌, refl, arith}
use Rattle.limits.proofs.Refusals.{some-number}
use Rattle.calls.proofs.Stores.{puts-same}
use Rattle.showwords.proofs.LinkLines.{refused-line, plan-line}
use Rattle.showwords.proofs.links.put_link.Goals as goal

pub returns-in-Ok-clause-put : goal.returns-in-Ok-clause-put
returns-in-Ok-clause-put c = puts-same (plan-line _ _ 0 c.in-Ok.ensures refl) c.put_plan.ensures.put

pub returns-in-Err-clause-put : goal.returns-in-Err-clause-put
returns-in-Err-clause-put c =
    puts-same (refused-line _ _ _ (c.number.ensures ∙ c.in-Err.ensures) (λ z. omega (arith, some-number c.in-Err.refusal, c.number.ensures))) c.put_refused.ensures.put
