use Rattle.std.proofs.Common.{◌<◌, ◌∙◌, sym, refl, ap, arith}
use Rattle.model.specs.Fresh.{fresh}
use Rattle.limits.proofs.Refusals.{some-number}
use Rattle.plan.proofs.Laws.{is-plan}
use Rattle.program.specs.State.{bytes_in}
use Rattle.program.proofs.PlanRead.{left-refused, left-accepted}
use Rattle.program.proofs.plans.begin.Goals as goal

pub returns-in-Ok : goal.returns-in-Ok
returns-in-Ok c =
    let bytes = bytes_in c.args.kept in
    let read = c.in-Ok.ensures in
    let w = c.write_plan-at.ensures in
    left-accepted bytes c.args.rest.now read.is.0 (c.fresh.ensures.link ∙ ap fresh (is-plan bytes c.in-Ok.plan read.is)) (omega arith)
    (w.out, (w.next, w.most)) c.play_on.ensures

pub returns-in-Err : goal.returns-in-Err
returns-in-Err c =
    let w = c.write_plan-written.ensures in
    let some : 0 < c.number.result = rw c.number.ensures (some-number c.in-Err.refusal) in
    left-refused (bytes_in c.args.kept) c.args.rest.now some (c.in-Err.ensures.is ∙ sym c.number.ensures) (omega arith) (w.out, (w.next, w.most))
    (record { stage_is = refl; regular = tt })
