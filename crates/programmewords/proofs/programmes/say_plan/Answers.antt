use Rattle.std.proofs.Common.{ap, arith}
use Rattle.calls.proofs.Stores.{puts_then, puts-same}
use Rattle.replies.specs.Lines.{spaced}
use Rattle.replies.proofs.PutOn.{says}
use Rattle.programmewords.proofs.programmes.say_plan.Goals as goal

pub returns : goal.returns
returns c =
    let number = puts-same (ap spaced c.from.ensures) c.put_number-end.ensures.put in
    says (puts_then (puts_then c.put-word.ensures number) c.put.ensures) (omega arith)
