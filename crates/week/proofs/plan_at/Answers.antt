use Rattle.std.proofs.Common.{◌≤◌, take, length, sym, ap, ◌∙◌, arith}
use Rattle.std.proofs.lemmas.Result.{err_from_is_err_and}
use Rattle.model.specs.Calls.{accepted}
use Rattle.week.specs.Week.{AtMinute, running, plan_or_dark}
use Rattle.week.specs.Reading.{entries_of, at_minute}
use Rattle.week.proofs.FirstRunning.{first-found}
use Rattle.week.proofs.Passed.{few-entries, refused-answer, passing-answer}
use Rattle.week.proofs.Refusals.{entries-are}
use Rattle.week.proofs.plan_at.Goals as goal

pub returns-in_err-check : goal.returns-in_err-check
returns-in_err-check c =
    let told = err_from_is_err_and c.from_residual.result c.from_residual.ensures.1 in
    rw (told.1, told.2) (refused-answer (entries_of c.args.p) c.args.minute c.in_err-check.field-0.0 c.in_err-check.ensures)

pub shared_ref_as_front-entries : goal.shared_ref_as_front-entries
shared_ref_as_front-entries c = omega (arith, few-entries c.args.p c.args.minute (sym c.in_ok-check.ensures))

pub returns : goal.returns
returns c =
    let p = c.args.p in
    let few : p.count ≤ 64 = few-entries p c.args.minute (sym c.in_ok-check.ensures) in
    let there : p.count ≤ length p.entries = omega arith in
    let found = ap at_minute c.plan_or_dark.ensures ∙ first-found (take p.count p.entries) c.args.minute
    ∙ sym (ap (λ es. plan_or_dark (running es c.args.minute)) (entries-are p there)) in
    ap (λ (x : AtMinute). accepted x) found ∙ passing-answer (entries_of p) c.args.minute (sym c.in_ok-check.ensures)
