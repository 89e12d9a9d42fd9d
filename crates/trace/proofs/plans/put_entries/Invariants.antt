-- The lines of the entries so far are written.
use Rattle.model.specs.Plan as reference
use Rattle.plan.specs.Reading.{plan_for}
use Rattle.trace.specs.Trace.{entry_line}
use Rattle.trace.proofs.Numbers.{LinesTo}
use Rattle.trace.proofs.plans.put_entries.Given as goal

abbrev pub invariant-loop-e : goal.invariant-loop-e
invariant-loop-e l = LinesTo entry_line (reference.entry (plan_for l.fn.plan)) l.fn.plan.count l.fn.out l.out l.at l.next l.e-index
