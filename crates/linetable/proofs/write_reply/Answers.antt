use borrow.Author.Tests.{ne_eqb}
use Rattle.calls.proofs.Stores.{put-in-room}
use Rattle.linetable.proofs.write_reply.Goals as goal

pub returns-then-number-ne0-clause-put : goal.returns-then-number-ne0-clause-put
returns-then-number-ne0-clause-put c =
    let e = c.write_refusal.ensures in
    rw (ne_eqb _ _ c.if-number-ne0.true) (put-in-room _ _ _ c.requires (e.out, (e.next, e.most)))
