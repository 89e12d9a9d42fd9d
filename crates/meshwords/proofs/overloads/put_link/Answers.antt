use Rattle.std.proofs.Common.{ap}
use Rattle.calls.proofs.Stores.{puts_then, puts-same}
use Rattle.replies.specs.Lines.{spaced}
use Rattle.meshwords.proofs.OverLines.{three-spaced}
use Rattle.meshwords.proofs.overloads.put_link.Goals as goal

pub returns-clause-put : goal.returns-clause-put
returns-clause-put c =
    let first = puts-same (ap spaced c.link_from.ensures) c.put_number-after_from.ensures.put in
    let second = puts-same (ap spaced c.link_to.ensures) c.put_number-after_to.ensures.put in
    puts-same (three-spaced _ _ _) (puts_then (puts_then first second) c.put_number.ensures.put)
