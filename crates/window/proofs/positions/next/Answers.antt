use Rattle.std.proofs.Common.{sym, mod-eq_of_lt, arith}
use native.Mathlib.Nat.{mod_self}
use Rattle.window.proofs.positions.next.Goals as goal

pub returns-then-at-m : goal.returns-then-at-m
returns-then-at-m c = rw (c.if-at-m.true, mod_self)

pub returns : goal.returns
returns c = sym (mod-eq_of_lt (omega arith))
