use Rattle.std.proofs.Common.{sym, ◌∙◌}
use Rattle.mesh.proofs.Admission.{refused-first, refused-by-table}
use Rattle.mesh.proofs.admit.Goals as goal

pub returns-in_err-table : goal.returns-in_err-table
returns-in_err-table c = refused-first _ _ _ _ c.from_residual.ensures.1 c.in_err-table.ensures.refusal

pub returns-then-any_over : goal.returns-then-any_over
returns-then-any_over c =
    let measured = c.in_ok-table.ensures in
    refused-by-table _ _ _ (sym measured.refusal) measured.table _ (sym c.any_over.ensures ∙ c.if-any_over.true)

pub returns : goal.returns
returns c =
    let measured = c.in_ok-table.ensures in
    refused-by-table _ _ _ (sym measured.refusal) measured.table _ (sym c.any_over.ensures ∙ c.if-any_over.false)
