use Rattle.std.proofs.Common.{◌≡◌}
use Rattle.model.specs.Plan.{entry_of}
use Rattle.plan.specs.Reading.{no_entry, stored_entry}
use Rattle.plan.proofs.Stored.{up_to}
use Rattle.plan.proofs.entries.read_entries.Given as goal

-- the entries before entry i are read
abbrev pub invariant-loop-i : goal.invariant-loop-i
invariant-loop-i l = l.all ≡ up_to (λ k. stored_entry (entry_of l.part k)) no_entry l.i
