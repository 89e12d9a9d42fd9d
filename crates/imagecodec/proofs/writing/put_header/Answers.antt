use Rattle.calls.proofs.Stores.{puts-same}
use Rattle.imagecodec.proofs.WrittenParts.{header_is, header-fits}
use Rattle.imagecodec.proofs.writing.put_header.Goals as goal

pub put_all-requires : goal.put_all-requires
put_all-requires c = (header-fits c.args.plan c.layout_of-l.ensures c.requires, c.requires.there)

pub returns : goal.returns
returns c = puts-same (header_is c.args.plan c.layout_of-l.ensures c.args.current c.args.mark c.args.turn) c.put_all.ensures
