use Rattle.std.proofs.Common.{ap, ◌∙◌, arith}
use Rattle.std.proofs.lemmas.Result.{err_from_is_err_and}
use Rattle.limits.specs.Refusals.{number}
use Rattle.plan.proofs.Writer.{passes, few, header-fits, entries_fit, refused-by-number, refused-19, part_room, written}
use Rattle.plan.proofs.write.Goals as goal

pub returns-in_err-check : goal.returns-in_err-check
returns-in_err-check c =
    let passed_on = err_from_is_err_and c.from_residual.result c.from_residual.ensures.1 in
    let w = refused-by-number c.args.draft c.args.out.now passed_on.0 (ap number passed_on.2 ∙ c.in_err-check.ensures) in
    rw passed_on.1 (record { is = w.0; out = w.1.0; most = w.1.1 })

pub overflow_mul-total : goal.overflow_mul-total
overflow_mul-total c = omega (arith, few (passes c.args.draft c.in_ok-check.ensures))

pub overflow_add-total : goal.overflow_add-total
overflow_add-total c = omega (arith, few (passes c.args.draft c.in_ok-check.ensures))

pub returns-then-out-total : goal.returns-then-out-total
returns-then-out-total c =
    let w = refused-19 (passes c.args.draft c.in_ok-check.ensures) c.args.out.now c.if-out-total.true in
    record { is = w.0; out = w.1.0; most = w.1.1 }

pub put_header-requires : goal.put_header-requires
put_header-requires c = (header-fits (passes c.args.draft c.in_ok-check.ensures), omega arith)

pub put_entries-requires : goal.put_entries-requires
put_entries-requires c =
    (entries_fit (passes c.args.draft c.in_ok-check.ensures), part_room c.args.draft c.args.out.now _ c.if-out-total.false c.put_header.ensures)

pub returns : goal.returns
returns c =
    let w = written (passes c.args.draft c.in_ok-check.ensures) c.args.out.now _ _ c.if-out-total.false c.put_header.ensures c.put_entries.ensures in
    record { is = w.0; out = w.1.0; most = w.1.1 }
