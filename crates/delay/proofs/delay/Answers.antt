use Rattle.std.proofs.Common.{arith, sym, ◌∙◌}
use Rattle.delay.proofs.Answers.{asked-limits, passed-limits, not-asked, is-refused, is_within, passed_on, product-most, some-product}
use Rattle.delay.proofs.delay.Goals as goal

pub returns-then-no_question : goal.returns-then-no_question
returns-then-no_question c = not-asked _ _ _ _ (sym c.no_question.ensures ∙ c.if-no_question.true)

pub returns-in_err-check : goal.returns-in_err-check
returns-in_err-check c =
    passed_on _ _ c.from_residual.ensures.1
    ∙ is-refused _ _ _ _ (sym c.no_question.ensures ∙ c.if-no_question.false) c.in_err-check.field-0.0 c.in_err-check.ensures

pub frames_in-requires : goal.frames_in-requires
frames_in-requires c =
    let p = passed-limits c.args.slots c.args.share (sym c.in_ok-check.ensures) in
    (asked-limits _ _ (sym c.no_question.ensures ∙ c.if-no_question.false), p.some_share, omega (arith, p.share_most, p.slots_most))

pub overflow_mul-result : goal.overflow_mul-result
overflow_mul-result c =
    let p = passed-limits c.args.slots c.args.share (sym c.in_ok-check.ensures) in
    record { fits = omega (arith, product-most c.frames_in.ensures.1 c.frames_in.ensures.2 p) }

pub overflow_sub-result : goal.overflow_sub-result
overflow_sub-result c =
    let p = passed-limits c.args.slots c.args.share (sym c.in_ok-check.ensures) in
    some-product c.frames_in.ensures.1 c.frames_in.ensures.2 p

pub overflow_mul-result-2 : goal.overflow_mul-result-2
overflow_mul-result-2 c =
    let p = passed-limits c.args.slots c.args.share (sym c.in_ok-check.ensures) in
    record { fits = omega (arith, p.share_most, p.slots_most) }

pub overflow_mul-result-3 : goal.overflow_mul-result-3
overflow_mul-result-3 c =
    let p = passed-limits c.args.slots c.args.share (sym c.in_ok-check.ensures) in
    record { fits = omega (arith, p.share_most, p.slots_most) }

pub returns : goal.returns
returns c =
    rw c.frames_in.ensures.0 (is_within _ _ _ _ (sym c.no_question.ensures ∙ c.if-no_question.false) (sym c.in_ok-check.ensures))
