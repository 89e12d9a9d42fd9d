use Rattle.std.proofs.Common.{sym, ◌∙◌}
use Rattle.tables.proofs.LaterPositions.{booked_after, booked-before}
use Rattle.tables.proofs.owners.unbooked_later.Goals as goal

pub returns-then-unbooked_in : goal.returns-then-unbooked_in
returns-then-unbooked_in c =
    booked-before c.args.w c.requires _ (c.unbooked_in.ensures.pass c.if-unbooked_in.true) _ c.unbooked_in-then-unbooked_in.ensures

pub returns-else-unbooked_in : goal.returns-else-unbooked_in
returns-else-unbooked_in c =
    c.if-unbooked_in.false ∙ sym (booked_after c.args.w c.requires _ (c.unbooked_in.ensures.miss c.if-unbooked_in.false))
