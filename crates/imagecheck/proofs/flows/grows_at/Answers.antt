use Rattle.std.proofs.Common.{sym, ◌∙◌}
use Rattle.imagecheck.proofs.LaterPositions.{later-is}
use Rattle.imagecheck.proofs.flows.grows_at.Goals as goal

pub returns-then-passed : goal.returns-then-passed
returns-then-passed c =
    rw (later-is c.args.w c.requires.0.on.proper c.args.p c.requires.1, sym c.passed.ensures ∙ c.if-passed.true)

pub returns : goal.returns
returns c =
    rw (
      later-is c.args.w c.requires.0.on.proper c.args.p c.requires.1,
      sym c.passed.ensures ∙ c.if-passed.false,
      c.field.ensures.is,
      c.field-last.ensures.is,
      c.booking.ensures.is,
      c.before-q.ensures,
    )
