use Rattle.std.proofs.Common.{arith}
use Rattle.calls.proofs.Stores.{puts_then}
use Rattle.replies.proofs.PutOn.{says}
use Rattle.replies.proofs.render.say_three.Goals as goal

pub returns : goal.returns
returns c =
    let numbers = puts_then (puts_then c.put_first-one.ensures.put c.put_number-two.ensures.put) c.put_number-three.ensures.put in
    says (puts_then numbers c.put.ensures) (omega arith)
