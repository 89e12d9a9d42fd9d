use Rattle.std.proofs.Common.{ap, sym, ◌∙◌}
use Rattle.std.proofs.lemmas.Result.{err_from_is_err_and}
use Rattle.model.specs.Refusals.{condition, first_of}
use Rattle.model.specs.Plan as model
use Rattle.model.specs.WrittenPlan.{number_tests}
use Rattle.limits.specs.Reading.{draft_for}
use Rattle.limits.specs.Refusals.{number}
use Rattle.plan.proofs.Reader.{too_short, other_length, other_count, counted-by, number_is, stored_is, valid-plan}
use Rattle.plan.proofs.read.Goals as goal

pub returns-then-bytes-lt12-clause-is : goal.returns-then-bytes-lt12-clause-is
returns-then-bytes-lt12-clause-is c = too_short _ c.if-bytes-lt12.true

pub returns-then-bytes-h-clause-is : goal.returns-then-bytes-h-clause-is
returns-then-bytes-h-clause-is c =
    other_length _ c.if-bytes-lt12.false (λ e. c.if-bytes-h.true (e ∙ ap (λ (x : model.Header). x.total) (sym c.read_header-h.ensures)))

pub returns-then-count_out_of_range-clause-is : goal.returns-then-count_out_of_range-clause-is
returns-then-count_out_of_range-clause-is c =
    let header = c.read_header-h.ensures in
    other_count _ c.if-bytes-lt12.false (c.if-bytes-h.false ∙ ap (λ (x : model.Header). x.total) header)
    (ap (λ x. condition (model.count_test x)) (sym header) ∙ sym c.count_out_of_range.ensures ∙ c.if-count_out_of_range.true)

-- the refusal of the plan's numbers is that of the bytes
pub returns-in_err-check-clause-is : goal.returns-in_err-check-clause-is
returns-in_err-check-clause-is c =
    let k = counted-by c.read_header-h.ensures c.if-bytes-lt12.false c.if-bytes-h.false c.count_out_of_range.ensures c.if-count_out_of_range.false in
    let tested = ap (λ d. first_of (number_tests (draft_for d))) (sym c.draft.ensures) ∙ sym c.in_err-check.ensures in
    let passed_on = err_from_is_err_and c.from_residual.result c.from_residual.ensures.1 in
    rw passed_on.1 (sym (number_is k _ c.read_entries-entries.ensures) ∙ tested ∙ ap number (sym passed_on.2))

pub returns : goal.returns
returns c =
    let k = counted-by c.read_header-h.ensures c.if-bytes-lt12.false c.if-bytes-h.false c.count_out_of_range.ensures c.if-count_out_of_range.false in
    let tested = ap (λ d. first_of (number_tests (draft_for d))) (sym c.draft.ensures) ∙ sym c.in_ok-check.ensures in
    let accepted = sym (number_is k _ c.read_entries-entries.ensures) ∙ tested in
    record { is = (accepted, stored_is k _ c.read_entries-entries.ensures); valid = valid-plan k _ c.read_entries-entries.ensures accepted }
