use Rattle.std.proofs.Common.{sym, mod-eq_of_lt, zero-add, arith}
use Rattle.model.specs.Tables.{ahead}
use Rattle.window.proofs.GoingRound.{ahead-on}
use Rattle.window.proofs.positions.before.Goals as goal

pub returns-then-at-eq0 : goal.returns-then-at-eq0
returns-then-at-eq0 c = rw (c.if-at-eq0.true, zero-add) (sym (mod-eq_of_lt (omega arith)))

-- one place back is how far ahead of place 1 it lies
pub returns : goal.returns
unfolding ahead
returns c = sym (ahead-on c.args.m 1 c.args.at (omega arith) (omega arith))
