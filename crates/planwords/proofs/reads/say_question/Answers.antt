use Rattle.std.proofs.Common.{arith, ◌≤◌, get_or}
use Rattle.model.proofs.Tables.{length-table}
use Rattle.plan.specs.Reading.{entry_for, no_entry, plan_for}
use Rattle.calls.proofs.Stores.{puts_then, puts-same}
use Rattle.replies.proofs.PutOn.{says}
use Rattle.planwords.proofs.SpacedNumbers.{question-is}
use Rattle.planwords.proofs.reads.say_question.Goals as goal

pub put_entries-end-requires : goal.put_entries-end-requires
put_entries-end-requires c =
    let few : c.args.p.count ≤ 16 = omega (arith, c.requires.0.accepted.flows_most, length-table c.args.p.count (λ i. entry_for (get_or c.args.p.entries i no_entry))) in
    (few, omega arith)

pub returns : goal.returns
returns c =
    let all = puts_then (puts_then c.put_header-header.ensures.put c.put_entries-end.ensures.put) c.put.ensures in
    says (puts-same (question-is (plan_for c.args.p)) all) (omega arith)
