use Rattle.std.proofs.Common.{arith, refl}
use Rattle.fields.proofs.FieldLists.{putting-none, putting-more, putting-all, fit_at}
use Rattle.fields.proofs.put_all.Goals as goal

pub loop-x-init : goal.loop-x-init
loop-x-init c = putting-none

pub put-next-requires : goal.put-next-requires
put-next-requires c = (fit_at c.args.numbers.now c.requires.0 c.loop-x.x-index (omega arith), omega (arith, c.loop-x.invariant.place))

pub loop-x-preserved : goal.loop-x-preserved
loop-x-preserved c = putting-more c.loop-x.invariant (omega arith) refl c.put-next.ensures

pub returns : goal.returns
returns c = putting-all _ c.loop-x.invariant (omega arith)
