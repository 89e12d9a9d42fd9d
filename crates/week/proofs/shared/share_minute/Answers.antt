use Rattle.std.proofs.lemmas.Bool.{le-ltb}
use Rattle.week.specs.Reading.{entry_for}
use Rattle.week.proofs.SharedMinutes.{apart, by-other-start}
use Rattle.week.proofs.shared.share_minute.Goals as goal

pub returns-then-a-b : goal.returns-then-a-b
returns-then-a-b c = by-other-start (entry_for c.args.a) (entry_for c.args.b) c.requires.0 c.requires.1 c.if-a-b.true

pub returns-else-a-b : goal.returns-else-a-b
returns-else-a-b c = rw (le-ltb c.args.a.start c.args.b.end c.if-a-b.false) (apart (entry_for c.args.a) (entry_for c.args.b) c.requires.0 c.requires.1 c.if-a-b.false)
