use Rattle.std.proofs.Common.{◌∙◌}
use borrow.Author.Tests.{le-leb, le-ltb, lt-ltb}
use Rattle.imagecheck.proofs.LaterPositions.{after_is}
use Rattle.imagecheck.proofs.flows.frame_kept.Goals as goal

pub returns-then-ahead : goal.returns-then-ahead
returns-then-ahead c =
    let after = after_is c.args.w c.requires.0.proper c.args.j c.args.frame c.ahead.ensures c.ahead-2.ensures in
    rw (← c.bookings-n.ensures.is, le-leb _ _ c.if-share-n.false, after ∙ lt-ltb _ _ c.if-ahead.true)

pub returns : goal.returns
returns c =
    let after = after_is c.args.w c.requires.0.proper c.args.j c.args.frame c.ahead.ensures c.ahead-2.ensures in
    rw (← c.bookings-n.ensures.is, le-leb _ _ c.if-share-n.false, after ∙ le-ltb _ _ c.if-ahead.false)
