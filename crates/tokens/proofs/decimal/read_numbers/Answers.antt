use Rattle.std.proofs.Common.{sym, ◌∙◌, arith}
use Rattle.std.proofs.lemmas.Result.{err_from_is_err_and}
use Rattle.tokens.proofs.NumbersRead.{none_read, one-read, wrong-read, all_read, field-ends}
use Rattle.tokens.proofs.decimal.read_numbers.Goals as goal

pub loop-at-init : goal.loop-at-init
loop-at-init c = none_read _ _ _ c.piece_end-at.ensures

pub slice_bounds-read_number-end : goal.slice_bounds-read_number-end
slice_bounds-read_number-end c = omega (arith, (field-ends c.loop-at.invariant c.loop-at-test.true _ c.piece_end-end.ensures))

pub returns-in_err-n-clause-found : goal.returns-in_err-n-clause-found
returns-in_err-n-clause-found c =
    let wrong = wrong-read c.loop-at.invariant c.loop-at-test.true _ c.piece_end-end.ensures (sym c.in_err-n.was ∙ c.read_number.ensures) in
    let told = err_from_is_err_and c.from_residual.result c.from_residual.ensures.1 in
    rw (told.1, told.2) wrong.0

pub returns-in_err-n-clause-kept : goal.returns-in_err-n-clause-kept
returns-in_err-n-clause-kept c = (wrong-read c.loop-at.invariant c.loop-at-test.true _ c.piece_end-end.ensures (sym c.in_err-n.was ∙ c.read_number.ensures)).1

pub loop-at-preserved : goal.loop-at-preserved
loop-at-preserved c =
    rw c.keep.ensures
    (one-read c.loop-at.invariant c.loop-at-test.true _ c.piece_end-end.ensures (sym c.in_ok-n.was ∙ c.read_number.ensures))

pub returns-clause-found : goal.returns-clause-found
returns-clause-found c = (all_read c.loop-at.invariant c.loop-at-test.false).0

pub returns-clause-kept : goal.returns-clause-kept
returns-clause-kept c = (all_read c.loop-at.invariant c.loop-at-test.false).1
