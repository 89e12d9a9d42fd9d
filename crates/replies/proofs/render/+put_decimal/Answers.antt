use Rattle.std.proofs.Common.{sym, arith}
use Rattle.model.proofs.Decimal.{decimal-one, decimal-more}
use Rattle.calls.proofs.Stores.{puts_one, puts_then, puts-same}
use Rattle.replies.proofs.DecimalLength.{length-one, length_more}
use Rattle.replies.proofs.render.+put_decimal.Goals as goal

pub bounds-out-at : goal.bounds-out-at
bounds-out-at t c = omega (arith, length-one c.args.n c.if-n-lt10.true)

pub returns-then-n-lt10 : goal.returns-then-n-lt10
returns-then-n-lt10 t c = puts-same (sym (decimal-one _ c.if-n-lt10.true)) (puts_one _ _ _)

pub put_decimal-last-requires : goal.put_decimal-last-requires
put_decimal-last-requires t c = let tenth = length_more c.args.n c.if-n-lt10.false in (omega arith, omega (arith, tenth))

pub bounds-out-last : goal.bounds-out-last
bounds-out-last t c = omega (arith, length_more c.args.n c.if-n-lt10.false)

pub overflow_add-result-2 : goal.overflow_add-result-2
overflow_add-result-2 t c = omega (arith, length_more c.args.n c.if-n-lt10.false)

pub returns : goal.returns
returns t c = puts-same (sym (decimal-more _ c.if-n-lt10.false)) (puts_then c.put_decimal-last.ensures (puts_one _ _ _))
