use Rattle.std.proofs.Common.{arith}
use Rattle.replies.proofs.PutOn.{says-refusal}
use Rattle.replies.proofs.render.say_refusal.Goals as goal

pub returns : goal.returns
returns c =
    let w = c.write_refusal.ensures in
    says-refusal c.args.number c.requires w.out w.next (omega (arith, w.most))
