use Rattle.std.proofs.Common.{arith}
use Rattle.window.proofs.RangeLoops.{replacing-none, replacing-more, replacing-done}
use Rattle.tables.specs.Owners.{everywhere}
use Rattle.fields.proofs.read_table.Goals as goal

pub loop-p-init : goal.loop-p-init
unfolding everywhere
loop-p-init c = replacing-none 0 (omega arith)

pub overflow_cast-table : goal.overflow_cast-table
overflow_cast-table c = omega (arith, c.requires.bytes c.loop-p.p c.loop-p-test.true)

pub loop-p-preserved : goal.loop-p-preserved
loop-p-preserved c = replacing-more 0 c.loop-p.invariant (omega arith) c.field.ensures.is

pub returns : goal.returns
returns c = replacing-done 0 c.loop-p.invariant (omega arith)
