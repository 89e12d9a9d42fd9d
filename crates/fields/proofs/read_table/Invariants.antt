use Rattle.window.proofs.RangeLoops.{Replacing}
use Rattle.tables.specs.Owners.{everywhere}
use Rattle.imagemodel.specs.Image.{field_at}
use Rattle.fields.proofs.read_table.Given as goal

abbrev pub invariant-loop-p : goal.invariant-loop-p
invariant-loop-p l = Replacing (λ k x. field_at l.bytes l.at k) 0 l.count (everywhere l.spare) l.table l.p
