use Rattle.week.specs.Reading.{empty_entry}
use Rattle.programmewords.specs.Asked.{stored_entry}
use Rattle.programmewords.proofs.Filled.{StartFilled}
use Rattle.programmewords.proofs.programmes.entries.Given as goal

abbrev pub invariant-loop-i : goal.invariant-loop-i
invariant-loop-i l = StartFilled 64 empty_entry (stored_entry l.numbers) l.all l.i
