use Rattle.linetable.proofs.Stored.{both_stored}
use Rattle.linetable.proofs.write.Goals as goal

pub returns-clause-put : goal.returns-clause-put
returns-clause-put c = both_stored c.args.line c.from-past.ensures c.requires c.put_four.ensures c.put_four-2.ensures
