use Rattle.std.proofs.Common.{◌≡◌, ◌+◌, ◌*◌, List, ℕ, subst, arith}
use Rattle.model.specs.Plan.{field16}
use Rattle.plan.specs.Reading.{ReadAs}
use Rattle.imagemodel.specs.Image.{header_length}
use Rattle.imagecheck.proofs.PlanParts.{plan-part}
use Rattle.imagecheck.proofs.plans.plan_in.Goals as goal

pub returns-clause-is : goal.returns-clause-is
returns-clause-is c =
    let b = c.args.image.now in
    let long : c.byte_or_zero.result + 256 * c.byte_or_zero-2.result ≡ field16 b header_length =
    omega (arith, c.byte_or_zero.ensures.is, c.byte_or_zero-2.ensures.is) in
    subst (λ (part : List ℕ). ReadAs part c.read.result) (plan-part b _ _ long c.min-end.ensures) c.read.ensures.is
