use Rattle.std.proofs.Common.{sym, ◌∷◌, [], ◌++◌, arith}
use Rattle.plan.specs.Reading.{plan_for}
use Rattle.trace.proofs.LinkTold.{plan-count}
use Rattle.trace.specs.Trace.{line_of, entry_lines}
use Rattle.trace.proofs.Numbers.{lines-as, lines_then}
use Rattle.trace.proofs.plans.write_plan.Goals as goal

pub returns : goal.returns
returns c =
    let n = sym (plan-count c.args.plan) in
    lines-as (λ k. line_of 80 (0 ∷ c.args.plan.slots ∷ c.args.plan.frames ∷ c.args.plan.buffer ∷ n k ∷ []) ++ entry_lines (plan_for c.args.plan) (n k))
    (omega arith) (lines_then c.put_line-next.ensures c.put_entries.ensures)
