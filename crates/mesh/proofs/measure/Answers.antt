use Rattle.std.proofs.Common.{sym, ◌∙◌}
use Rattle.mesh.proofs.Admission.{well-asked, small-streams, loads_are}
use Rattle.mesh.proofs.measure.Goals as goal

pub gathered-requires : goal.gathered-requires
gathered-requires c = small-streams _ (well-asked c.args.slots _ (sym c.in_ok-check_before_links.ensures))

pub returns-clause-table : goal.returns-clause-table
returns-clause-table c = c.gathered.ensures ∙ loads_are c.args.numbers.now
