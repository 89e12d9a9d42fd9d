use Rattle.std.proofs.Common.{sym, arith}
use Rattle.window.proofs.GoingRound.{ahead-on, ahead-over}
use Rattle.window.proofs.positions.ahead.Goals as goal

pub returns-then-at-to : goal.returns-then-at-to
returns-then-at-to c = sym (ahead-on _ _ _ c.if-at-to.true (omega arith))

pub returns : goal.returns
returns c = omega (arith, ahead-over c.args.m c.args.at c.args.to c.if-at-to.false (omega arith))
