use Rattle.std.proofs.Common.{ap, ◌∙◌, arith}
use Rattle.model.specs.Listing.{refusal_line}
use Rattle.calls.proofs.Stores.{puts-same, put-in-room}
use Rattle.show.specs.Refusals.{number}
use Rattle.show.proofs.Refusals.{some-refusal}
use Rattle.showwords.proofs.LinkLines.{refused-verdict}
use Rattle.showwords.proofs.put_verdict.Goals as goal

pub returns-in-Err-clause-put : goal.returns-in-Err-clause-put
returns-in-Err-clause-put c =
    let e = c.write_refusal.ensures in
    let line = put-in-room (refusal_line c.number.result) _ 0 (omega arith) (e.out, (e.next, e.most)) in
    rw c.in-Err.is (puts-same (ap refusal_line c.number.ensures ∙ refused-verdict (number c.in-Err.refusal) (some-refusal c.in-Err.refusal)) line)
