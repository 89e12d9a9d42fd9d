use Rattle.std.proofs.Common.{sym, ◌∙◌, arith}
use Rattle.tables.proofs.Departures.{leaves-anywhere, leaves_after, rank_below}
use Rattle.tables.proofs.search.leave_rank.Goals as goal

pub returns-then-passed : goal.returns-then-passed
returns-then-passed c =
    leaves-anywhere c.args.w c.requires.proper c.args.departure c.requires.below (sym c.passed.ensures ∙ c.if-passed.true)

pub overflow_add-result : goal.overflow_add-result
overflow_add-result c =
    omega (arith, c.rank.ensures, rank_below c.args.w c.requires.proper c.args.departure, c.requires.proper.measures.positions_most)

pub returns : goal.returns
returns c =
    rw c.rank.ensures (leaves_after c.args.w c.requires.proper c.args.departure c.requires.below (sym c.passed.ensures ∙ c.if-passed.false))
