use Rattle.std.proofs.Common.{arith}
use Rattle.imagecheck.proofs.Layouts.{count-few, part-most, laid_out}
use Rattle.imagecheck.proofs.layout.layout_of.Goals as goal

pub overflow_mul-positions : goal.overflow_mul-positions
overflow_mul-positions c = omega (arith, count-few _ c.requires)

pub overflow_add-positions-2 : goal.overflow_add-positions-2
overflow_add-positions-2 c = omega (arith, count-few _ c.requires)

pub overflow_add-flows : goal.overflow_add-flows
overflow_add-flows c = omega (arith, count-few _ c.requires, c.requires.accepted.positions_most)

pub overflow_mul-result : goal.overflow_mul-result
overflow_mul-result c = omega (arith, part-most _ c.requires)

pub overflow_mul-result-2 : goal.overflow_mul-result-2
overflow_mul-result-2 c = omega (arith, part-most _ c.requires)

pub overflow_add-result : goal.overflow_add-result
overflow_add-result c = omega (arith, count-few _ c.requires, c.requires.accepted.positions_most, part-most _ c.requires)

pub returns : goal.returns
returns c = laid_out _ c.requires
