use Rattle.programmewords.proofs.ProgrammeLines.{stored_is}
use Rattle.programmewords.proofs.programmes.asked.Goals as goal

pub returns : goal.returns
returns c = stored_is c.args.numbers.now c.args.count c.entries-entries.result c.requires.0 c.entries-entries.ensures
