use Rattle.std.proofs.Common.{arith}
use Rattle.replies.proofs.PutOn.{puts-part}
use Rattle.replies.proofs.render.put.Goals as goal

pub returns : goal.returns
returns c = puts-part _ _ _ _ _ (omega arith) c.copy_from_slice.ensures.after c.requires
