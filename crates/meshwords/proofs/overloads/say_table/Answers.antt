use Rattle.std.proofs.Common.{not, ap, arith}
use Rattle.calls.proofs.Stores.{puts_then, puts-same}
use Rattle.replies.proofs.PutOn.{says}
use Rattle.meshwords.proofs.OverLines.{some-line}
use Rattle.meshwords.proofs.overloads.say_table.Goals as goal

pub returns : goal.returns
returns c =
    let all = puts_then (puts_then c.put-word.ensures c.put_over-end.ensures.put) c.put.ensures in
    says (puts-same (some-line c.args.slots c.args.loads.now c.any_over.ensures (ap not c.if-not-any_over.false)) all) (omega arith)
