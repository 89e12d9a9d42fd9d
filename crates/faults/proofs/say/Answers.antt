use Rattle.std.proofs.Common.{arith}
use Rattle.calls.proofs.Stores.{puts_then, puts-same}
use Rattle.replies.proofs.PutOn.{says}
use Rattle.faults.proofs.ToldLines.{some-line}
use Rattle.faults.proofs.say.Goals as goal

pub returns : goal.returns
returns c =
    let line = some-line c.args.found.now c.in-Some.number.now c.in-Some.ensures.value in
    let all = puts_then (puts_then c.put_first-first.ensures.put c.put_numbers-end.ensures.put) c.put.ensures in
    says (puts-same line all) (omega arith)
